-- Ends of states, with the numbers of their successors.
use Rattle.std.specs.Prelude.{◌≡◌, ℕ, All, Contains, List, [], Some, slice_get}
use Rattle.std.specs.List.{AllZip}
use Rattle.tso_choose.specs.declared.choice.Choice.{Choice}
use Rattle.tso_compact.specs.Plans.{IsStep}
use Rattle.tso_foot.specs.declared.table.Table.{Table}
use Rattle.tso_rec.specs.Bases.{by_steps}
use Rattle.tso_rec.specs.Conditions.{AreMet}
use Rattle.tso_prog.specs.declared.client.Client.{Client}
use Rattle.tso_rec.specs.declared.record.End.{End}
use Rattle.tso_rec.specs.declared.record.End.TheVariants.{Choices, Order}
use Rattle.tso_state.specs.declared.actor.Actor.{Actor}
use Rattle.tso_state.specs.declared.state.State.{State}
use Rattle.tso_table.specs.Leading.{shard_of}
use Rattle.tso_table.specs.declared.number.Number.{Number}
use Rattle.tso_table.specs.declared.slot.Filed.{Filed}
use Rattle.tso_table.specs.declared.slot.Near.{Near}

-- the chosen actors of an end
abbrev pub moves_of : End → List Choice
moves_of (Choices choices) = choices
moves_of (Order order) = []

-- the number is of the shard of the state after the chosen step
pub record IsNamed (c : Client) (s : State) (x : Choice) (n : Number) : Type 0 where
  pub after : State
  pub step : IsStep c s x.actor after
  pub shard : n.shard ≡ shard_of after

-- the end meets all conditions of a record but that the states after its steps are kept, and that registers lie where the table says; each of
-- these states has a number
pub record IsEnd (c : Client) (t : Table) (s : State) (f : Filed) : Type 0 where
  pub met : AreMet c (by_steps t) (Unit {0}) (Unit {0}) s f.end
  pub named : AllZip (IsNamed c s) (moves_of f.end) f.numbers

-- choice i of the end, and the number of its successor, which is of shard k
pub record IsMove (k : ℕ) (f : Filed) (i : ℕ) (x : Choice) (n : Number) : Type 0 where
  pub choice : slice_get (moves_of f.end) i ≡ Some x
  pub number : slice_get f.numbers i ≡ Some n
  pub shard : n.shard ≡ k

-- the state after the chosen step, with the place that its number names
pub record IsNear (c : Client) (s : State) (x : Choice) (n : Number) (m : Near) : Type 0 where
  pub place : n.place ≡ m.place
  pub step : IsStep c s x.actor m.state

-- it is that of a choice whose number is of shard k
pub record IsNearOf (c : Client) (k : ℕ) (s : State) (f : Filed) (m : Near) : Type 0 where
  pub index : ℕ
  pub choice : Choice
  pub number : Number
  pub move : IsMove k f index choice number
  pub near : IsNear c s choice number m

-- the one of this choice is among these
pub record HasNear (c : Client) (s : State) (x : Choice) (n : Number) (near : List Near) : Type 0 where
  pub one : Near
  pub among : Contains near one
  pub is : IsNear c s x n one

-- these are the states after the chosen steps whose numbers are of shard k: all of them, and no others
pub record AreNear (c : Client) (k : ℕ) (s : State) (f : Filed) (near : List Near) : Type 0 where
  pub only : All (IsNearOf c k s f) near
  pub every : (i : ℕ) (x : Choice) (n : Number) → IsMove k f i x n → HasNear c s x n near

-- the state after the actor's step stands at the place
pub record IsKeptAt (c : Client) (states : List State) (s : State) (a : Actor) (place : ℕ) : Type 0 where
  pub after : State
  pub step : IsStep c s a after
  pub at : slice_get states place ≡ Some after

-- each successor whose number is of shard k stands where its number says
abbrev pub SuccessorsAreThere : Client → ℕ → List State → State → Filed → Type 0
SuccessorsAreThere c k states s f = (i : ℕ) (x : Choice) (n : Number) → IsMove k f i x n → IsKeptAt c states s x.actor n.place
