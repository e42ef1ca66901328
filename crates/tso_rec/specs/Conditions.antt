-- The conditions of a record, a state with its end, in a certificate of either grain.
use Rattle.std.specs.Prelude.{◌≡◌, ℕ, ◌<◌, All, Contains, IsTrue, List, length, false, Some, slice_get}
use Rattle.tso_choose.specs.Choices.{AreReasons, IsRising, actors_of}
use Rattle.tso_choose.specs.Needs.{is_enabled}
use Rattle.tso_choose.specs.declared.choice.Choice.{Choice}
use Rattle.tso_compact.specs.Plans.{IsStep}
use Rattle.tso_fifo.specs.Orders.{IsOrderOf, order_view}
use Rattle.tso_foot.specs.Closed.{IsArrayTableClosed, IsTableAbove}
use Rattle.tso_foot.specs.declared.table.ArrayTable.{ArrayTable}
use Rattle.tso_foot.specs.declared.table.Table.{Table}
use Rattle.tso_hist.specs.Views.{history_view}
use Rattle.tso_move.specs.Crossed.{IsMetAfter}
use Rattle.tso_move.specs.Runs.{HasMove}
use Rattle.tso_prog.specs.declared.client.Client.{Client}
use Rattle.tso_rec.specs.declared.basis.Basis.{Basis}
use Rattle.tso_rec.specs.declared.basis.Grain.{Grain}
use Rattle.tso_rec.specs.declared.basis.Grain.TheVariants.{Steps, Crossings}
use Rattle.tso_rec.specs.declared.record.End.{End}
use Rattle.tso_rec.specs.declared.record.End.TheVariants.{Choices, Order}
use Rattle.tso_state.specs.WellFormed.{IsWellFormed}
use Rattle.tso_state.specs.declared.actor.Actor.{Actor}
use Rattle.tso_state.specs.declared.actor.Actor.TheVariants.{Exec, Drain}
use Rattle.tso_state.specs.declared.state.Core.TheVariants.{Stopped}
use Rattle.tso_state.specs.declared.state.State.{State}
use Rattle.tso_state.specs.declared.state.Thread.{Thread}

-- the chosen actors: some, in strictly rising order, each with a step
pub record AreMovers (c : Client) (s : State) (choices : List Choice) : Type 0 where
  pub some : 0 < length choices
  pub rising : IsRising (actors_of choices)
  pub enabled : All (λ (x : Choice). IsTrue (is_enabled c s x.actor)) choices

-- neither the core nor the buffer of a thread has a step
pub record HasNoStep (c : Client) (s : State) (thread : ℕ) : Type 0 where
  pub core : is_enabled c s (Exec thread) ≡ false
  pub buffer : is_enabled c s (Drain thread) ≡ false

-- no actor has a step
abbrev pub IsOver : Client → State → Type 0
IsOver c s = (a : Actor) → is_enabled c s a ≡ false

-- such actors are chosen; at a crossing none are, and some actor has a step
abbrev pub ChoicesFit : Client → Grain → State → List Choice → Type 0
ChoicesFit c Steps s choices = AreMovers c s choices
ChoicesFit c Crossings s choices = IsOver c s → ⊥

-- the record has such choices, or it has an order and no actor has a step
abbrev pub EndFits : Client → Basis → State → End → Type 0
EndFits c b s (Choices choices) = ChoicesFit c b.grain s choices
EndFits c b s (Order order) = IsOver c s

-- each chosen actor has one reason for each other thread, in rising order, each of which holds; at a crossing there are none
abbrev pub ChoicesHaveReasons : Client → Grain → Table → State → List Choice → Type 0
ChoicesHaveReasons c Steps t s choices = All (λ (x : Choice). AreReasons c t s (actors_of choices) x.actor x.reasons) choices
ChoicesHaveReasons c Crossings t s choices = Unit {0}

abbrev pub HaveReasons : Client → Basis → State → End → Type 0
HaveReasons c b s (Choices choices) = ChoicesHaveReasons c b.grain b.table s choices
HaveReasons c b s (Order order) = Unit {0}

-- one of the states is that after the actor's step
pub record IsKeptAfter (c : Client) (states : List State) (s : State) (a : Actor) : Type 0 where
  pub after : State
  pub step : IsStep c s a after
  pub kept : Contains states after

-- of the closed tables of arrays it is the least, which tells what is a thread's own
pub record IsLeast (c : Client) (own : ArrayTable) : Type 0 where
  pub closed : IsArrayTableClosed c own
  pub least : (other : ArrayTable) → IsArrayTableClosed c other → IsTableAbove other own

-- each actor's move, if it has one, leads to a state from which the run stops in one of the states
abbrev pub MovesAreMet : Client → Table → List State → State → Type 0
MovesAreMet c t states s = (own : ArrayTable) → IsLeast c own → (a : Actor) → HasMove c own s a → IsMetAfter c own t states s a

-- the state after each chosen actor's step is kept; at a crossing each actor with a move is followed
abbrev pub AreFollowed : Client → Grain → Table → List State → State → List Choice → Type 0
AreFollowed c Steps t states s choices = All (λ (x : Choice). IsKeptAfter c states s x.actor) choices
AreFollowed c Crossings t states s choices = MovesAreMet c t states s

abbrev pub SuccessorsAreKept : Client → Basis → List State → State → End → Type 0
SuccessorsAreKept c b states s (Choices choices) = AreFollowed c b.grain b.table states s choices
SuccessorsAreKept c b states s (Order order) = Unit {0}

-- a fault has stopped thread i
pub record IsStoppedAt (s : State) (i : ℕ) : Type 0 where
  pub thread : Thread
  pub at : slice_get s.threads i ≡ Some thread
  pub stopped : thread.core ≡ Stopped

abbrev pub HasNoStopped : State → Type 0
HasNoStopped s = (i : ℕ) → IsStoppedAt s i → ⊥

-- where there is an order, no fault has stopped a thread
abbrev pub IsUnstopped : State → End → Type 0
IsUnstopped s (Choices choices) = Unit {0}
IsUnstopped s (Order order) = HasNoStopped s

-- the order explains the calls by the client's bounded queue
abbrev pub IsExplained : Client → State → End → Type 0
IsExplained c s (Choices choices) = Unit {0}
IsExplained c s (Order order) = IsOrderOf c.mode c.capacity s.history (order_view (history_view s.history) order)

-- all conditions hold, where `Kept` says that the states to which its actors lead are kept, and `Within` that its running registers lie where
-- the table says
pub record AreMet (c : Client) (b : Basis) (Kept Within : Type 0) (s : State) (e : End) : Type 0 where
  pub well_formed : IsWellFormed c s
  pub fits : EndFits c b s e
  pub reasons : HaveReasons c b s e
  pub successors : Kept
  pub unstopped : IsUnstopped s e
  pub explained : IsExplained c s e
  pub within : Within
