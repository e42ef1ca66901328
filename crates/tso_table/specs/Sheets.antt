-- What contracts see of the table of one shard, and what is true of it whenever no call is under way.
use Rattle.std.specs.Prelude.{◌≡◌, ◌<◌, ◌^◌, ◌++◌, ℕ, Bool, true, false, List, [], ◌∷◌, length, Some, slice_get, sum_by}
use Rattle.tso_foot.specs.declared.table.Table.{Table}
use Rattle.tso_parts.specs.Numbers.{IsNowhere}
use Rattle.tso_prog.specs.declared.client.Client.{Client}
use Rattle.tso_state.specs.declared.state.State.{State}
use Rattle.tso_table.specs.Ends.{IsEnd, SuccessorsAreThere}
use Rattle.tso_table.specs.Leading.{IsKept, shard_of}
use Rattle.tso_table.specs.OneThread.{Replays, Rows}
use Rattle.tso_table.specs.declared.errors.InternError.{InternError}
use Rattle.tso_table.specs.declared.errors.InternError.TheVariants.{Full, Memory}
use Rattle.tso_table.specs.declared.kept.Kept.{Kept}
use Rattle.tso_table.specs.declared.slot.Filed.{Filed}
use Rattle.tso_table.specs.declared.slot.Slot.{Slot}
use Rattle.tso_table.specs.declared.slot.Slot.TheVariants.{Waiting, Claimed, Done}

pub record Sheet : Type 0 where
  pub client : Client
  pub table : Table
  pub number : ℕ
  pub rows : Rows
  -- for each state, the numbers of the actors that lead to it
  pub actors : List (List ℕ)
  pub entries : ℕ

-- 1 where the state is not done
abbrev pub one_if_open : Slot → ℕ
one_if_open Waiting = 1
one_if_open Claimed = 1
one_if_open (Done f) = 0

-- how many states are not done
abbrev pub open_count : List Slot → ℕ
open_count slots = sum_by one_if_open slots

-- the end meets its conditions, and the successors in its own shard stand where it says
pub record IsDone (c : Client) (t : Table) (k : ℕ) (states : List State) (s : State) (f : Filed) : Type 0 where
  pub end : IsEnd c t s f
  pub successors : SuccessorsAreThere c k states s f

-- the state at a place, with the actors that lead to it
pub record IsKeptIn (states : List State) (actors : List (List ℕ)) (n : ℕ) (k : Kept) : Type 0 where
  pub state : slice_get states n ≡ Some k.state
  pub actors_at : slice_get actors n ≡ Some k.actors

-- One thread's calls leave the rows, each state belongs to the shard and its actors lead to it, and each end that is filed is
-- one of its state.
pub record IsSound (c : Client) (t : Table) (k : ℕ) (r : Rows) (actors : List (List ℕ)) (unfinished entries : ℕ) : Type 0 where
  pub replays : Replays r entries
  pub slots : length r.slots ≡ length r.states
  pub paths : length actors ≡ length r.states
  pub kept : (n : ℕ) (p : Kept) → IsKeptIn r.states actors n p → IsKept c p
  pub here : (n : ℕ) (s : State) → slice_get r.states n ≡ Some s → shard_of s ≡ k
  pub done : (n : ℕ) (s : State) (f : Filed) → slice_get r.states n ≡ Some s → slice_get r.slots n ≡ Some (Done f) → IsDone c t k r.states s f
  pub unfinished_is : unfinished ≡ open_count r.slots
  pub small : length r.states < 2 ^ 32

-- of one client, one table of footprints and one number
pub record IsForSame (old new : Sheet) : Type 0 where
  pub client : new.client ≡ old.client
  pub table : new.table ≡ old.table
  pub number : new.number ≡ old.number

-- no state came
pub record HasSameStates (old new : Sheet) : Type 0 where
  pub states : new.rows.states ≡ old.rows.states
  pub actors : new.actors ≡ old.actors

-- nothing changed but the count of entries
pub record IsSameButCounted (old new : Sheet) : Type 0 where
  pub rows : new.rows ≡ old.rows
  pub actors : new.actors ≡ old.actors

-- this state came, which was not there
pub record IsNewIn (old new : Sheet) (k : Kept) : Type 0 where
  pub absent : IsNowhere old.rows.states k.state
  pub states : new.rows.states ≡ old.rows.states ++ k.state ∷ []
  pub actors : new.actors ≡ old.actors ++ k.actors ∷ []

-- why a state has no place: it is not there and may not be new; else it may, and a growth was refused
abbrev pub IsFull : Bool → List State → State → InternError → Type 0
IsFull room states s Full = IsNowhere states s × (room ≡ false)
IsFull room states s Memory = IsNowhere states s × (room ≡ true)
