-- The spelling of a state, part by part, and how it is read.
use Rattle.std.specs.Prelude.{◌≡◌, ℕ, zero, suc, ◌/◌, ◌%◌, ◌<◌, List, [], ◌∷◌, ◌++◌, length, Option, Some, None, ◌==◌}
use Rattle.std.specs.List.{flat_map, AllByRecursion}
use Rattle.tso_hist.specs.declared.call.Call.{Call}
use Rattle.tso_line.specs.declared.instruction.CallKind.{CallKind}
use Rattle.tso_line.specs.declared.instruction.CallKind.TheVariants.{Push, Pop}
use Rattle.tso_machine.specs.declared.buffer.Entry.{Entry}
use Rattle.tso_machine.specs.declared.frame.Frame.{Frame}
use Rattle.tso_prog.specs.declared.answer.Answer.{Answer}
use Rattle.tso_prog.specs.declared.answer.Answer.TheVariants.{Refused, Done, Value}
use Rattle.tso_state.specs.Order.{flags_number}
use Rattle.tso_state.specs.declared.state.Core.{Core}
use Rattle.tso_state.specs.declared.state.Core.TheVariants.{Idle, Running, Stopped}
use Rattle.tso_state.specs.declared.state.State.{State}
use Rattle.tso_state.specs.declared.state.Thread.{Thread}
use Rattle.tso_word.specs.declared.Flags.{Flags}
use Rattle.tso_code.specs.Fields.{at2, at3, at4, items_at, list, list_at, ListFits}
use Rattle.tso_code.specs.Numbers.{◌>>=◌, Reading, number, below_at, IsWord, IsPlace, IsCount, word_at, place_at, count_at}

-- ---- cores: 00 idle; 01 position, 15 words, flags, list of counts of back jumps; 02 stopped

-- ZF 1, CF 2, SF 4, OF 8, added
abbrev pub flags_of : ℕ → Flags
flags_of n = record { zf = n % 2 == 1; cf = n / 2 % 2 == 1; sf = n / 4 % 2 == 1; of = n / 8 == 1 }

unfoldable pub flags_at : Reading Flags
flags_at bytes = do
  n ← below_at 16 bytes
  Some (flags_of n.0, n.1)

abbrev pub FlagsFit : Flags → Type 0
FlagsFit f = flags_number f < 16

abbrev pub registers : List ℕ → List ℕ
registers words = flat_map number words

unfoldable pub registers_at : Reading (List ℕ)
registers_at = items_at word_at 15

abbrev pub RegistersFit : List ℕ → Type 0
RegistersFit words = (length words ≡ 15) × AllByRecursion IsWord words

abbrev pub frame : Frame → List ℕ
frame f = number f.pc ++ (registers f.registers ++ (number (flags_number f.flags) ++ list number f.taken))

unfoldable pub frame_at : Reading Frame
frame_at = at4 (λ pc words flags taken. record { pc = pc; registers = words; flags = flags; taken = taken }) place_at registers_at flags_at (list_at count_at)

abbrev pub FrameFits : Frame → Type 0
FrameFits f = IsPlace f.pc × RegistersFit f.registers × FlagsFit f.flags × ListFits IsCount f.taken

abbrev pub core : Core → List ℕ
core Idle = 0 ∷ []
core (Running f) = 1 ∷ frame f
core Stopped = 2 ∷ []

unfoldable pub core_at : Reading Core
core_at [] = None
core_at (zero ∷ rest) = Some (Idle, rest)
core_at (suc zero ∷ rest) = do
  f ← frame_at rest
  Some (Running f.0, f.1)
core_at (suc (suc zero) ∷ rest) = Some (Stopped, rest)
core_at (suc (suc (suc b)) ∷ rest) = None

abbrev pub CoreFits : Core → Type 0
CoreFits (Running f) = FrameFits f
CoreFits Idle = Unit {0}
CoreFits Stopped = Unit {0}

-- ---- threads: core, list of place and word

abbrev pub entry : Entry → List ℕ
entry e = number e.place ++ number e.word

unfoldable pub entry_at : Reading Entry
entry_at = at2 (λ place word. record { place = place; word = word }) place_at word_at

abbrev pub EntryFits : Entry → Type 0
EntryFits e = IsPlace e.place × IsWord e.word

abbrev pub thread : Thread → List ℕ
thread t = core t.core ++ list entry t.buffer

unfoldable pub thread_at : Reading Thread
thread_at = at2 (λ core buffer. record { core = core; buffer = buffer }) core_at (list_at entry_at)

abbrev pub ThreadFits : Thread → Type 0
ThreadFits t = CoreFits t.core × ListFits EntryFits t.buffer

-- ---- calls: 00 and the argument of a push, or 01 a pop; list of seen; answer

abbrev pub kind : CallKind → List ℕ
kind (Push v) = 0 ∷ number v
kind Pop = 1 ∷ []

unfoldable pub kind_at : Reading CallKind
kind_at [] = None
kind_at (zero ∷ rest) = do
  v ← word_at rest
  Some (Push v.0, v.1)
kind_at (suc zero ∷ rest) = Some (Pop, rest)
kind_at (suc (suc b) ∷ rest) = None

abbrev pub KindFits : CallKind → Type 0
KindFits (Push v) = IsWord v
KindFits Pop = Unit {0}

-- 01 refused, 02 done, 03 and a value
abbrev pub answer : Answer → List ℕ
answer Refused = 1 ∷ []
answer Done = 2 ∷ []
answer (Value v) = 3 ∷ number v

unfoldable pub answer_at : Reading Answer
answer_at [] = None
answer_at (zero ∷ rest) = None
answer_at (suc zero ∷ rest) = Some (Refused, rest)
answer_at (suc (suc zero) ∷ rest) = Some (Done, rest)
answer_at (suc (suc (suc zero)) ∷ rest) = do
  v ← word_at rest
  Some (Value v.0, v.1)
answer_at (suc (suc (suc (suc b))) ∷ rest) = None

abbrev pub AnswerFits : Answer → Type 0
AnswerFits (Value v) = IsWord v
AnswerFits Refused = Unit {0}
AnswerFits Done = Unit {0}

-- 00 none
abbrev pub any_answer : Option Answer → List ℕ
any_answer None = 0 ∷ []
any_answer (Some a) = answer a

unfoldable pub any_answer_at : Reading (Option Answer)
any_answer_at [] = None
any_answer_at (zero ∷ rest) = Some (None, rest)
any_answer_at (suc b ∷ rest) = do
  a ← answer_at (suc b ∷ rest)
  Some (Some a.0, a.1)

abbrev pub AnyAnswerFits : Option Answer → Type 0
AnyAnswerFits None = Unit {0}
AnyAnswerFits (Some a) = AnswerFits a

abbrev pub call : Call → List ℕ
call c = kind c.kind ++ (list number c.seen ++ any_answer c.answer)

unfoldable pub call_at : Reading Call
call_at = at3 (λ kind seen answer. record { kind = kind; seen = seen; answer = answer }) kind_at (list_at count_at) any_answer_at

abbrev pub CallFits : Call → Type 0
CallFits c = KindFits c.kind × ListFits IsCount c.seen × AnyAnswerFits c.answer

-- ---- states: list of words, list of threads, for each thread its list of calls, this outer list with its count too

abbrev pub state : State → List ℕ
state s = list number s.memory ++ (list thread s.threads ++ list (list call) s.history)

unfoldable pub state_at : Reading State
state_at = at3 (λ memory threads history. record { memory = memory; threads = threads; history = history }) (list_at word_at) (list_at thread_at) (list_at (list_at call_at))

abbrev pub StateFits : State → Type 0
StateFits s = ListFits IsWord s.memory × ListFits ThreadFits s.threads × ListFits (ListFits CallFits) s.history
