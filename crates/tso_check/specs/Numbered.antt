-- What is judged of a state by its number in a store. Nothing here need be believed: it serves the code.
use Rattle.std.specs.Prelude.{◌≡◌, All, ℕ, List, Option, Some, slice_get}
use Rattle.tso_choose.specs.declared.choice.Choice.{Choice}
use Rattle.tso_foot.specs.declared.table.Table.{Table}
use Rattle.tso_judge.specs.Judging.{IsJudgedAmong}
use Rattle.tso_judge.specs.declared.code.Code.{Code}
use Rattle.tso_prog.specs.declared.client.Client.{Client}
use Rattle.tso_rec.specs.Bases.{by_steps}
use Rattle.tso_rec.specs.declared.record.End.{End}
use Rattle.tso_rec.specs.declared.record.End.TheVariants.{Choices, Order}
use Rattle.tso_state.specs.declared.actor.Actor.{Actor}
use Rattle.tso_state.specs.declared.state.State.{State}
use Rattle.tso_store.specs.Sheets.{IsKeptSuccessor}

-- the state after the actor's step from state number n is kept
pub record IsKeptFrom (c : Client) (states : List State) (n : ℕ) (a : Actor) : Type 0 where
  pub number : ℕ
  pub kept : IsKeptSuccessor c states n a number

-- for each chosen actor
abbrev pub AreKeptFrom : Client → List State → ℕ → End → Type 0
AreKeptFrom c states n (Choices choices) = All (λ (x : Choice). IsKeptFrom c states n x.actor) choices
AreKeptFrom c states n (Order order) = Unit {0}

-- what is found of the state with this number and an end
abbrev pub IsJudgedAt : Client → Table → List State → ℕ → End → Option Code → Type 0
IsJudgedAt c t states n e code = (s : State) → slice_get states n ≡ Some s → IsJudgedAmong c (by_steps t) states s e code
