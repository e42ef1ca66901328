-- Parts of states that were read, and states by their numbers. Nothing here need be believed: it serves the code.
use Rattle.std.specs.Prelude.{◌≡◌, ◌<◌, ◌^◌, ℕ, List, length, Some, slice_get}
use Rattle.tso_code.specs.Fields.{list_at}
use Rattle.tso_code.specs.States.{call_at, state_at}
use Rattle.tso_hist.specs.declared.call.Call.{Call}
use Rattle.tso_parts.specs.Numbers.{Extends}
use Rattle.tso_prog.specs.declared.client.Client.{Client}
use Rattle.tso_scan.specs.declared.rows.Row.{Row}
use Rattle.tso_scan.specs.declared.sources.Sources.{Sources}
use Rattle.tso_state.specs.declared.state.State.{State}
use Rattle.tso_keys.specs.Keys.{FitsClient, Grows, IsKeyOf}
use Rattle.tso_keys.specs.Numbers.{AreNumbersOf}
use Rattle.tso_keys.specs.declared.key.Key.{Key}
use Rattle.tso_keys.specs.declared.parts.Parts.{Parts}

-- the history with this number is that of the lists with these numbers
pub record IsRowOf (lists : List (List Call)) (histories : List (List (List Call))) (n : ℕ) (ns : List ℕ) : Type 0 where
  pub history : List (List Call)
  pub at : slice_get histories n ≡ Some history
  pub numbers : AreNumbersOf lists ns history

-- each row has the number of its history
pub record AreRows (lists : List (List Call)) (histories : List (List (List Call))) (rows : List Row) : Type 0 where
  pub each : (n : ℕ) (row : Row) → slice_get rows n ≡ Some row → IsRowOf lists histories n row.numbers

-- the history of this row has this number, and the others keep theirs
pub record IsHistoryFound (lists : List (List Call)) (old new : List (List (List Call))) (rs : List Row) (row : Row) (n : ℕ) : Type 0 where
  pub rows : AreRows lists new rs
  pub extends : Extends old new
  pub found : IsRowOf lists new n row.numbers

-- the history with this number is that at the front of the bytes, of so many lists
pub record IsHistoryReadAs (lists : List (List Call)) (old new : List (List (List Call))) (rs : List Row) (many n : ℕ) (bytes rest : List ℕ) : Type 0 where
  pub rows : AreRows lists new rs
  pub extends : Extends old new
  pub history : List (List Call)
  pub count : length history ≡ many
  pub at : slice_get new n ≡ Some history
  pub reads : list_at (list_at call_at) bytes ≡ Some (history, rest)

abbrev pub parts_of : Sources → Parts
parts_of s = record { memories = s.memories; histories = s.histories; threads = s.threads }

-- this is the key of the state at the front of the bytes, which fits the client
pub record IsKeyReadAs (c : Client) (old new : Sources) (bytes : List ℕ) (k : Key) (rest : List ℕ) : Type 0 where
  pub state : State
  pub reads : state_at bytes ≡ Some (state, rest)
  pub key : IsKeyOf (parts_of new) k state
  pub fits : FitsClient c state
  pub grows : Grows (parts_of old) (parts_of new)
  pub small : length new.threads < 2 ^ 32
  pub rows : AreRows new.lists new.histories new.rows
