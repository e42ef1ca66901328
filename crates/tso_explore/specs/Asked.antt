-- Whether states are worked, as several threads ask by halves. Nothing here need be believed: it serves the code.
use Rattle.std.specs.Prelude.{◌≡◌, ◌≤◌, ℕ, List, length}
use Rattle.tso_foot.specs.declared.table.Table.{Table}
use Rattle.tso_prog.specs.declared.client.Client.{Client}
use Rattle.tso_search.specs.BySteps.{AreWorkedBetween, HasBegun}
use Rattle.tso_state.specs.declared.state.State.{State}

-- states of which is asked, with numbers from one up to another
pub record Range : Type 0 where
  pub client : Client
  pub table : Table
  pub states : List State
  pub from : ℕ
  pub to : ℕ

abbrev pub asked : Client → Table → List State → ℕ → ℕ → Range
asked c t states from to = record { client = c; table = t; states = states; from = from; to = to }

-- a store of this client has such states, all of them met
pub record CanBeAsked (kept : Client) (r : Range) : Type 0 where
  pub client : kept ≡ r.client
  pub begun : HasBegun r.client r.states
  pub ordered : r.from ≤ r.to
  pub there : r.to ≤ length r.states

abbrev pub AreWorkedIn : Range → Type 0
AreWorkedIn r = AreWorkedBetween r.client r.table r.states r.from r.to

-- one has those up to a number, the other those from there on
pub record AreHalvesAsked (whole left right : Range) : Type 0 where
  pub middle : ℕ
  pub left_is : left ≡ asked whole.client whole.table whole.states whole.from middle
  pub right_is : right ≡ asked whole.client whole.table whole.states middle whole.to
