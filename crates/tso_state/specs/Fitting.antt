-- The list of a well-formed state as it is asked: of its history, of each thread with its last call, and of the prologue.
use Rattle.std.specs.Prelude.{◌≡◌, ◌≢◌, ℕ, ◌-◌, ◌<◌, ◌≤◌, List, [], length, take, Option, Some, None, slice_get, slice_index_or, All, if◌then◌else◌}
use Rattle.tso_flow.specs.declared.location.ProcedureKind.{ProcedureKind}
use Rattle.tso_hist.specs.declared.call.Call.{Call}
use Rattle.tso_line.specs.declared.instruction.CallKind.{CallKind}
use Rattle.tso_machine.specs.declared.buffer.Entry.{Entry}
use Rattle.tso_line.specs.declared.instruction.Instruction.{Instruction}
use Rattle.tso_flow.specs.Calls.{bound_of}
use Rattle.tso_machine.specs.Instructions.{is_back_jump}
use Rattle.tso_prog.specs.declared.client.Client.{Client}
use Rattle.tso_state.specs.declared.state.Core.{Core}
use Rattle.tso_state.specs.declared.state.Core.TheVariants.{Idle, Running, Stopped}
use Rattle.tso_state.specs.declared.state.State.{State}
use Rattle.tso_state.specs.declared.state.Thread.{Thread}
use Rattle.tso_state.specs.Views.{running_procedure}
use Rattle.tso_state.specs.WellFormed.{HasStarted, IsAnswered, IsFrameOf, IsPrologueOver, LastFits, answered_count, client_calls, last_call, thread_total, word_count}

-- each of these entries is inside a memory of so many words
abbrev pub AreInside : ℕ → List Entry → Type 0
AreInside words buffer = All (λ e. e.place < words) buffer

-- call k of thread i, of these kinds of calls, with so many threads
pub record IsNumbered (kinds : List CallKind) (width i k : ℕ) (call : Call) : Type 0 where
  pub kind : slice_get kinds k ≡ Some call.kind
  pub seen : length call.seen ≡ width
  pub own : slice_get call.seen i ≡ Some k

abbrev pub AreNumbered : List CallKind → ℕ → ℕ → List Call → Type 0
AreNumbered kinds width i calls = (k : ℕ) (d : Call) → k < length calls → IsNumbered kinds width i k (slice_index_or calls k d)

-- all but the last are answered
abbrev pub AreEarlierAnswered : List Call → Type 0
AreEarlierAnswered calls = All IsAnswered (take (length calls - 1) calls)

-- a running core is in a frame of this procedure
abbrev pub FrameFits : Client → ProcedureKind → Core → Type 0
FrameFits c procedure Idle = Unit {0}
FrameFits c procedure (Running f) = IsFrameOf c procedure f
FrameFits c procedure Stopped = Unit {0}

-- the last of the calls, if there is one, and the core of one thread fit each other
pub record CoreFits (c : Client) (core : Core) (calls : List Call) : Type 0 where
  pub last : LastFits core (last_call calls)
  pub frame : FrameFits c (running_procedure calls) core

-- these are calls of thread i
pub record AreTheThreads (c : Client) (i : ℕ) (calls : List Call) : Type 0 where
  pub numbered : AreNumbered (client_calls c i) (thread_total c) i calls
  pub earlier : AreEarlierAnswered calls

abbrev pub ListsFit : Client → List (List Call) → Type 0
ListsFit c h = (i : ℕ) → i < thread_total c → AreTheThreads c i (slice_index_or h i [])

-- a thread and its last call
pub record ThreadFits (c : Client) (t : Thread) (calls : List Call) : Type 0 where
  pub inside : AreInside (word_count c) t.buffer
  pub fit : CoreFits c t.core calls

-- both are there, and fit
abbrev pub FitsAt : Client → Option Thread → Option (List Call) → Type 0
FitsAt c None calls = ⊥
FitsAt c (Some t) None = ⊥
FitsAt c (Some t) (Some calls) = ThreadFits c t calls

abbrev pub ThreadsFit : Client → State → Type 0
ThreadsFit c s = (i : ℕ) → i < thread_total c → FitsAt c (slice_get s.threads i) (slice_get s.history i)

-- not more than so many answers of thread j are seen
abbrev pub SeesAtMost : ℕ → ℕ → List ℕ → Type 0
SeesAtMost j count seen = (n : ℕ) → slice_get seen j ≡ Some n → n ≤ count

abbrev pub HaveSeenAtMost : ℕ → ℕ → List Call → Type 0
HaveSeenAtMost j count calls = All (λ c. SeesAtMost j count c.seen) calls

abbrev pub HaveAllSeenAtMost : List (List Call) → ℕ → ℕ → ℕ → Type 0
HaveAllSeenAtMost h width j count = (i : ℕ) → i < width → HaveSeenAtMost j count (slice_index_or h i [])

abbrev pub SeenFits : List (List Call) → ℕ → Type 0
SeenFits h width = (j : ℕ) → j < width → HaveAllSeenAtMost h width j (answered_count (slice_index_or h j []))

-- all of the list that the history alone tells
pub record HistoryFits (c : Client) (h : List (List Call)) : Type 0 where
  pub lists : ListsFit c h
  pub seen : SeenFits h (thread_total c)

pub record HasLengths (c : Client) (s : State) : Type 0 where
  pub memory : length s.memory ≡ word_count c
  pub threads : length s.threads ≡ thread_total c
  pub history : length s.history ≡ thread_total c

-- all of the list but what it says of the prologue
pub record PartsFit (c : Client) (s : State) : Type 0 where
  pub lengths : HasLengths c s
  pub history : HistoryFits c s.history
  pub threads : ThreadsFit c s

-- it has started, and is not thread j
pub record IsOtherStarted (s : State) (j i : ℕ) : Type 0 where
  pub other : i ≢ j
  pub started : HasStarted s i

-- no thread but this one has started
abbrev pub NoneHasStarted : State → ℕ → ℕ → Type 0
NoneHasStarted s width j = (i : ℕ) → i < width → IsOtherStarted s j i → ⊥

abbrev pub PrologueFits : Client → State → Type 0
PrologueFits c s = 0 < length c.prologue → (i : ℕ) → i < thread_total c → IsOtherStarted s (length c.threads) i → IsPrologueOver c s

-- the bound of the instruction at this position, if it is a back jump
abbrev pub back_bound : ℕ → Instruction ℕ ℕ → Option ℕ
back_bound at step = if is_back_jump at step then Some (bound_of step) else None
