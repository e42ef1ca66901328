-- Moves of kept states, and where runs of free actors' moves stop.
use Rattle.std.specs.Prelude.{◌≡◌, ℕ, Bool, List, Option, Some, None, slice_get}
use Rattle.tso_confluence.specs.Stops.{HasOneStop}
use Rattle.tso_crossing.specs.Moves.{opening}
use Rattle.tso_flow.specs.Calls.{kind_of}
use Rattle.tso_foot.specs.declared.table.ArrayTable.{ArrayTable}
use Rattle.tso_foot.specs.declared.table.Table.{Table}
use Rattle.tso_line.specs.declared.instruction.CallKind.{CallKind}
use Rattle.tso_machine.specs.Activations.{activation}
use Rattle.tso_machine.specs.Instructions.{next_action}
use Rattle.tso_machine.specs.Kinds.{kind_of_action}
use Rattle.tso_machine.specs.declared.frame.Frame.{Frame}
use Rattle.tso_machine.specs.declared.kinds.ActionKind.{ActionKind}
use Rattle.tso_machine.specs.declared.kinds.ActionKind.TheVariants.{Cut}
use Rattle.tso_model.specs.States.{Buffer}
use Rattle.tso_model.specs.Steps.{perform}
use Rattle.tso_move.specs.Free.{HasNoFree, IsFree}
use Rattle.tso_move.specs.Parts.{opened_in, opened_kinds, own_buffer}
use Rattle.tso_move.specs.Runs.{HasMove, IsMove, IsRun}
use Rattle.tso_prog.specs.Views.{call_view}
use Rattle.tso_prog.specs.declared.client.Client.{Client}
use Rattle.tso_state.specs.Views.{state_of}
use Rattle.tso_state.specs.declared.actor.Actor.{Actor}
use Rattle.tso_state.specs.declared.state.Core.TheVariants.{Running}
use Rattle.tso_state.specs.declared.state.State.{State}
use Rattle.tso_state.specs.declared.state.Thread.{Thread}
use Rattle.tso_keys.specs.Keys.{FitsClient, IsKeyOf, state_at}
use Rattle.tso_keys.specs.declared.key.Key.{Key}
use Rattle.tso_keys.specs.declared.parts.Parts.{Parts}
use Rattle.tso_store.specs.Sheets.{IsAdded}
use Rattle.tso_store.specs.declared.moved.Behind.{Behind}
use Rattle.tso_store.specs.declared.moved.Behind.TheVariants as behinds

-- ---- a call that begins

-- thread number k has the buffer of thread number n, and runs a call in this frame
abbrev pub IsOpenedThread : List Thread → List Thread → ℕ → Frame → ℕ → Type 0
IsOpenedThread old new n frame k = (t : Thread) → slice_get old n ≡ Some t → slice_get new k ≡ Some (record { core = Running frame; buffer = t.buffer })

-- the new key is that of the state in which thread i has begun this call and the opening has led to this frame
pub record IsBegunOf (old : Parts) (k : Key) (i : ℕ) (kind : CallKind) (frame : Frame) (new : Parts) (next : Key) : Type 0 where
  pub state : State
  pub is : state_of state ≡ perform (state_of (state_at old k)) i (opening (own_buffer (state_at old k) i) (call_view kind) (activation (kind_of kind) frame))
  pub key : IsKeyOf new next state
  pub fits : (c : Client) → FitsClient c (state_at old k) → FitsClient c state

-- how a move goes on behind an opening that stops before an instruction of this kind, with this buffer
abbrev pub IsBehind : Buffer → ActionKind → Behind → Type 0
IsBehind b kind behinds.Cut = kind ≡ Cut
IsBehind b kind behinds.Waits = opened_kinds b kind ≡ None
IsBehind b kind behinds.Steps = kind ≡ Cut → ⊥

-- the opening of thread i's call leads to this frame, and the move goes on like this there
pub record AreOpened (c : Client) (own : ArrayTable) (s : State) (i : ℕ) (call : CallKind) (frame : Frame) (behind : Behind) : Type 0 where
  pub frame_is : activation (kind_of call) frame ≡ opened_in c own s i (call_view call)
  pub behind_is : IsBehind (own_buffer s i) (kind_of_action (next_action c (activation (kind_of call) frame))) behind

-- ---- moves

-- the new key is that of the state after the actor's move
pub record IsMoveOf (c : Client) (own : ArrayTable) (old : Parts) (k : Key) (a : Actor) (new : Parts) (next : Key) : Type 0 where
  pub state : State
  pub move : IsMove c own (state_at old k) a state
  pub key : IsKeyOf new next state
  pub fits : FitsClient c state

-- the new key, if there is a move
abbrev pub IsMoveKey : Client → ArrayTable → Parts → Key → Actor → Parts → Option Key → Type 0
IsMoveKey c own old k a new None = HasMove c own (state_at old k) a → ⊥
IsMoveKey c own old k a new (Some next) = IsMoveOf c own old k a new next

-- ---- runs

-- the new key is that of the state after a free actor's move
pub record IsNextOf (c : Client) (own : ArrayTable) (t : Table) (old : Parts) (k : Key) (new : Parts) (next : Key) : Type 0 where
  pub actor : Actor
  pub free : IsFree c own t (state_at old k) actor
  pub moved : IsMoveOf c own old k actor new next

-- the new key, and the thread that is asked first when the run goes on, if an actor is free
abbrev pub IsNextKey : Client → ArrayTable → Table → Parts → Key → Parts → Option (Key × ℕ) → Type 0
IsNextKey c own t old k new None = HasNoFree c own t (state_at old k)
IsNextKey c own t old k new (Some next) = IsNextOf c own t old k new next.0

-- the new key is that of the state in which the run from a state stops
pub record IsStopOf (c : Client) (own : ArrayTable) (t : Table) (s : State) (new : Parts) (stop : Key) : Type 0 where
  pub state : State
  pub run : IsRun c own t s state
  pub key : IsKeyOf new stop state
  pub fits : FitsClient c state

-- the new key is that of the state in which the run from the state after the actor's move stops
pub record IsArrivalOf (c : Client) (own : ArrayTable) (t : Table) (old : Parts) (k : Key) (a : Actor) (new : Parts) (stop : Key) : Type 0 where
  pub after : State
  pub move : IsMove c own (state_at old k) a after
  pub stops : IsStopOf c own t after new stop

-- the new key, if there is a move
abbrev pub IsArrivalKey : Client → ArrayTable → Table → Parts → Key → Actor → Parts → Option Key → Type 0
IsArrivalKey c own t old k a new None = HasMove c own (state_at old k) a → ⊥
IsArrivalKey c own t old k a new (Some stop) = IsArrivalOf c own t old k a new stop

-- ---- numbered states

-- state number n, if there is one, has one stop, whichever free actors go first
abbrev pub HasOneStopAt : Client → ArrayTable → Table → List State → ℕ → Type 0
HasOneStopAt c own t states n = (s : State) → slice_get states n ≡ Some s → HasOneStop c own t s

-- the actor has a move from state number n
pub record CanMove (c : Client) (own : ArrayTable) (states : List State) (n : ℕ) (a : Actor) : Type 0 where
  pub from : State
  pub at : slice_get states n ≡ Some from
  pub move : HasMove c own from a

-- the state in which the run from a state stops has this number
pub record IsStop (c : Client) (own : ArrayTable) (t : Table) (old new : List State) (s : State) (r : ℕ × Bool) : Type 0 where
  pub stop : State
  pub run : IsRun c own t s stop
  pub added : IsAdded old new stop r

-- the same of the run from the state after the actor's move from state number n
pub record IsArrival (c : Client) (own : ArrayTable) (t : Table) (old new : List State) (n : ℕ) (a : Actor) (r : ℕ × Bool) : Type 0 where
  pub from : State
  pub after : State
  pub at : slice_get old n ≡ Some from
  pub move : IsMove c own from a after
  pub stops : IsStop c own t old new after r

-- the number of that state, or that there is no move
abbrev pub IsArrivalOrNone : Client → ArrayTable → Table → List State → List State → ℕ → Actor → Option (ℕ × Bool) → Type 0
IsArrivalOrNone c own t old new n a None = (CanMove c own old n a → ⊥) × (new ≡ old)
IsArrivalOrNone c own t old new n a (Some r) = IsArrival c own t old new n a r
