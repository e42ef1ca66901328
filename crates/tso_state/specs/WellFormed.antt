-- Well-formed states of a client: all that a single state shows of having been reached. A state may be made of any parts, so
-- nothing here is known of one before it is tested.
use Rattle.std.specs.Prelude.{◌≡◌, ◌≢◌, ◌⊎◌, ℕ, ◌+◌, ◌<◌, ◌≤◌, List, [], ◌∷◌, length, count_by, is_some, Option, Some, None, slice_get, slice_index_or}
use Rattle.tso_flow.specs.Calls.{calls_of_client}
use Rattle.tso_flow.specs.declared.location.ProcedureKind.{ProcedureKind}
use Rattle.tso_hist.specs.declared.call.Call.{Call}
use Rattle.tso_line.specs.declared.instruction.CallKind.{CallKind}
use Rattle.tso_line.specs.declared.instruction.CallKind.TheVariants.{Push, Pop}
use Rattle.tso_machine.specs.declared.buffer.Entry.{Entry}
use Rattle.tso_machine.specs.declared.frame.Frame.{Frame}
use Rattle.tso_machine.specs.Instructions.{instructions_of}
use Rattle.tso_machine.specs.Places.{first_memory}
use Rattle.tso_machine.specs.Soundness.{bounds_in}
use Rattle.tso_prog.specs.declared.answer.Answer.{Answer}
use Rattle.tso_prog.specs.declared.answer.Answer.TheVariants.{Refused, Done, Value}
use Rattle.tso_prog.specs.declared.client.Client.{Client}
use Rattle.tso_state.specs.declared.state.Core.{Core}
use Rattle.tso_state.specs.declared.state.Core.TheVariants.{Idle, Running, Stopped}
use Rattle.tso_state.specs.declared.state.State.{State}
use Rattle.tso_state.specs.declared.state.Thread.{Thread}
use Rattle.tso_state.specs.Initial.{idle_thread}
use Rattle.tso_state.specs.Views.{running_procedure}

-- ---- of the client

-- how many words its memory has
abbrev pub word_count : Client → ℕ
word_count c = length (first_memory c.arrays)

-- how many threads it has, the prologue's counted
abbrev pub thread_total : Client → ℕ
thread_total c = length (calls_of_client c)

-- its calls of thread i
abbrev pub client_calls : Client → ℕ → List CallKind
client_calls c i = slice_index_or (calls_of_client c) i []

-- ---- of the state

abbrev pub IsThreadAt : State → ℕ → Thread → Type 0
IsThreadAt s i t = slice_get s.threads i ≡ Some t

-- the calls of thread i that have begun
abbrev pub calls_by : State → ℕ → List Call
calls_by s i = slice_index_or s.history i []

-- call k of thread i, counted from 0
abbrev pub IsCallAt : State → ℕ → ℕ → Call → Type 0
IsCallAt s i k call = slice_get (calls_by s i) k ≡ Some call

-- how many of these calls are answered
abbrev pub answered_count : List Call → ℕ
answered_count calls = count_by (λ c. is_some c.answer) calls

-- a push is answered by Refused or Done, a pop by Refused or a value
abbrev pub IsAnswerTo : CallKind → Option Answer → Type 0
IsAnswerTo kind None = ⊥
IsAnswerTo kind (Some Refused) = Unit {0}
IsAnswerTo (Push v) (Some Done) = Unit {0}
IsAnswerTo Pop (Some Done) = ⊥
IsAnswerTo (Push v) (Some (Value w)) = ⊥
IsAnswerTo Pop (Some (Value w)) = Unit {0}

abbrev pub IsAnswered : Call → Type 0
IsAnswered call = IsAnswerTo call.kind call.answer

abbrev pub last_call : List Call → Option Call
last_call [] = None
last_call (c ∷ []) = Some c
last_call (c ∷ d ∷ rest) = last_call (d ∷ rest)

-- ---- the list

-- 1. memory, threads, history and each `seen` are as long as the client's, and buffered places are inside the memory
pub record HasSizes (c : Client) (s : State) : Type 0 where
  pub memory : length s.memory ≡ word_count c
  pub threads : length s.threads ≡ thread_total c
  pub history : length s.history ≡ thread_total c
  pub seen : (i k : ℕ) (call : Call) → IsCallAt s i k call → length call.seen ≡ thread_total c
  pub places : (i n : ℕ) (t : Thread) (e : Entry) → IsThreadAt s i t → slice_get t.buffer n ≡ Some e → e.place < word_count c

-- call k of thread i is the client's; it has seen the answers of the k calls before it, and of each thread no more answers than there are
pub record IsClientsCall (c : Client) (s : State) (i k : ℕ) (call : Call) : Type 0 where
  pub kind : slice_get (client_calls c i) k ≡ Some call.kind
  pub own : slice_get call.seen i ≡ Some k
  pub others : (j n : ℕ) → slice_get call.seen j ≡ Some n → n ≤ answered_count (calls_by s j)

-- 2. the calls are the client's
abbrev pub CallsAreTheClients : Client → State → Type 0
CallsAreTheClients c s = (i k : ℕ) (call : Call) → IsCallAt s i k call → IsClientsCall c s i k call

-- 3. all calls of a thread but its last are answered
abbrev pub EarlierCallsAreAnswered : State → Type 0
EarlierCallsAreAnswered s = (i k : ℕ) (call : Call) → IsCallAt s i k call → k + 1 < length (calls_by s i) → IsAnswered call

-- the last call of an idle thread, if it has begun one, is answered; a running or stopped thread has one, and it is not
abbrev pub LastFits : Core → Option Call → Type 0
LastFits Idle None = Unit {0}
LastFits Idle (Some call) = IsAnswered call
LastFits (Running f) None = ⊥
LastFits (Running f) (Some call) = call.answer ≡ None
LastFits Stopped None = ⊥
LastFits Stopped (Some call) = call.answer ≡ None

-- 4. the last calls are answered or not as their threads say
abbrev pub LastCallsFit : State → Type 0
LastCallsFit s = (i : ℕ) (t : Thread) → IsThreadAt s i t → LastFits t.core (last_call (calls_by s i))

-- the position is inside the procedure, and each of its back jumps has a count, at most its bound
pub record IsFrameOf (c : Client) (procedure : ProcedureKind) (f : Frame) : Type 0 where
  pub position : f.pc < length (instructions_of c procedure)
  pub counts : length f.taken ≡ length (bounds_in c procedure)
  pub bounds : (n count bound : ℕ) → slice_get f.taken n ≡ Some count → slice_get (bounds_in c procedure) n ≡ Some bound → count ≤ bound

-- 5. running threads are in frames of their last calls' procedures
abbrev pub FramesFit : Client → State → Type 0
FramesFit c s = (i : ℕ) (t : Thread) (f : Frame) → IsThreadAt s i t → t.core ≡ Running f → IsFrameOf c (running_procedure (calls_by s i)) f

-- thread i has begun a call, or has something in its buffer
abbrev pub HasStarted : State → ℕ → Type 0
HasStarted s i = (0 < length (calls_by s i)) ⊎ ((t : Thread) × IsThreadAt s i t × (0 < length t.buffer))

-- the prologue's thread, the one after the client's own, is idle with an empty buffer, and has begun and answered all its calls
pub record IsPrologueOver (c : Client) (s : State) : Type 0 where
  pub thread : IsThreadAt s (length c.threads) idle_thread
  pub begun : length (calls_by s (length c.threads)) ≡ length c.prologue
  pub answered : answered_count (calls_by s (length c.threads)) ≡ length c.prologue

-- 6. where there is a prologue, no other thread starts before it is over
abbrev pub PrologueComesFirst : Client → State → Type 0
PrologueComesFirst c s = 0 < length c.prologue → (i : ℕ) → i ≢ length c.threads → HasStarted s i → IsPrologueOver c s

-- the state is well-formed
pub record IsWellFormed (c : Client) (s : State) : Type 0 where
  pub sizes : HasSizes c s
  pub calls : CallsAreTheClients c s
  pub earlier : EarlierCallsAreAnswered s
  pub last : LastCallsFit s
  pub frames : FramesFit c s
  pub prologue : PrologueComesFirst c s
