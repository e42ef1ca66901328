-- Whether the states after chosen steps are kept, one by one.
use Rattle.std.proofs.Common.{◌≡◌, ◌∙◌, ℕ, ◌+◌, ◌<◌, inl, inr, Bool, List, length, get_or, sym, subst, arith}
use Rattle.std.specs.Prelude.{◌↔◌, Contains, IsTrue}
use Rattle.std.proofs.lemmas.Bool.{cases_lt}
use Rattle.std.proofs.lemmas.List.{get_or_default}
use Rattle.std.proofs.lemmas.Option.{same_Some}
use Rattle.tso_choose.specs.declared.choice.Choice.{Choice}
use Rattle.tso_compact.specs.Plans.{IsStep}
use Rattle.tso_rec.specs.Conditions.{IsKeptAfter}
use Rattle.tso_prog.specs.declared.client.Client.{Client}
use Rattle.tso_state.specs.Views.{state_of}
use Rattle.tso_state.specs.declared.actor.Actor.{Actor}
use Rattle.tso_state.specs.declared.state.State.{State}
use Rattle.tso_confluence.proofs.Views.{same_state}

-- the one state after a step is kept or not
pub kept_after : (c : Client) (states : List State) (s after : State) (a : Actor) (r : Bool) → IsStep c s a after → (IsTrue r ↔ Contains states after) → IsTrue r ↔ IsKeptAfter c states s a
kept_after c states s after a r step has = (
  λ h. record { after = after; step = step; kept = has.0 h },
  λ k. has.1 (subst (Contains states) (same_state k.after after (same_Some (state_of k.after) (state_of after) (sym k.step ∙ step))) k.kept),
)

pub record KeptTo (c : Client) (states : List State) (s : State) (choices : List Choice) (n : ℕ) : Type 0 where
  pub each : (k : ℕ) (d : Choice) → k < n → IsKeptAfter c states s (get_or choices k d).actor

module _ (c : Client) (states : List State) (s : State) (choices : List Choice) where
  pub kept_none : KeptTo c states s choices 0
  kept_none = record { each = λ k d lt. absurd (omega (arith, lt)) }

  pub kept_more : (n : ℕ) (e : Choice) → n < length choices → KeptTo c states s choices n → IsKeptAfter c states s (get_or choices n e).actor → KeptTo c states s choices (n + 1)
  kept_more n e within to last = record {
    each = λ k d lt. elim (cases_lt k n) [
      | inl less ↦ to.each k d less
      | inr ge ↦
          let same : n ≡ k = omega (arith, lt, ge) in
          subst (λ i. IsKeptAfter c states s (get_or choices i d).actor) same (subst (λ (x : Choice). IsKeptAfter c states s x.actor) (get_or_default choices n e d within) last)
    ];
  }
