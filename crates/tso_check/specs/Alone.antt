-- Ends of which what a store remembers tells that they meet K06 and K07. Nothing here need be believed: it serves the code.
use Rattle.std.specs.Prelude.{◌≡◌, ◌+◌, ℕ, All, Bool, false, IsTrue, List, [], ◌∷◌, length}
use Rattle.tso_choose.specs.declared.choice.Choice.{Choice}
use Rattle.tso_compact.specs.declared.sort.StepKind.{StepKind}
use Rattle.tso_indep.specs.Reasons.{is_local, is_return}
use Rattle.tso_indep.specs.declared.reason.Reason.{Reason}
use Rattle.tso_indep.specs.declared.reason.Reason.TheVariants as reasons
use Rattle.tso_prog.specs.declared.client.Client.{Client}
use Rattle.tso_rec.specs.declared.record.End.{End}
use Rattle.tso_rec.specs.declared.record.End.TheVariants.{Choices, Order}
use Rattle.tso_state.specs.declared.actor.Actor.TheVariants.{Exec}
use Rattle.tso_state.specs.declared.state.State.{State}
use Rattle.tso_store.specs.Lone.{IsLoneCoreAt}

-- a step of this kind has this reason against each other thread, whatever the state is: a step within its thread that it is its own, a
-- return that it is one
abbrev pub is_sure : StepKind → Reason → Bool
is_sure kind reasons.Own = is_local kind
is_sure kind reasons.Return = is_return kind
is_sure kind _ = false

-- a core is chosen whose step in state number n goes first alone, with one such reason for each of so many threads but its own
pub record IsSureChoice (c : Client) (states : List State) (n count : ℕ) (x : Choice) : Type 0 where
  pub thread : ℕ
  pub kind : StepKind
  pub actor : x.actor ≡ Exec thread
  pub core : IsLoneCoreAt c states n thread kind
  pub one_each : length x.reasons + 1 ≡ count
  pub sure : All (λ (r : Reason). IsTrue (is_sure kind r)) x.reasons

-- such a core alone is chosen
pub record IsSureAlone (c : Client) (states : List State) (n count : ℕ) (choices : List Choice) : Type 0 where
  pub choice : Choice
  pub only : choices ≡ choice ∷ []
  pub held : IsSureChoice c states n count choice

abbrev pub IsSureEnd : Client → List State → ℕ → ℕ → End → Type 0
IsSureEnd c states n count (Choices choices) = IsSureAlone c states n count choices
IsSureEnd c states n count (Order order) = ⊥
