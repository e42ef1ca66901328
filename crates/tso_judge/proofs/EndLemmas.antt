-- Actors that rise, threads without a step, threads that are not stopped.
use Rattle.std.proofs.Common.{◌≡◌, ◌∙◌, ℕ, ◌+◌, ◌-◌, ◌<◌, ◌≤◌, inl, inr, List, length, Some, get_or, slice_get, sym, ap, subst, arith}
use Rattle.std.proofs.lemmas.Bool.{cases_lt}
use Rattle.std.proofs.lemmas.List.{length-map}
use Rattle.std.proofs.lemmas.Option.{same_Some, slice_get-map, slice_get_within, slice_get-get_or}
use Rattle.std.specs.Option.{option_map}
use Rattle.tso_choose.proofs.NeedLemmas.{nobody}
use Rattle.tso_choose.specs.Choices.{IsRising, actors_of}
use Rattle.tso_choose.specs.declared.choice.Choice.{Choice}
use Rattle.tso_rec.specs.Conditions.{HasNoStep, HasNoStopped, IsOver, IsStoppedAt}
use Rattle.tso_prog.specs.declared.client.Client.{Client}
use Rattle.tso_state.specs.Actors.{number_of}
use Rattle.tso_state.specs.declared.actor.Actor.{Actor}
use Rattle.tso_state.specs.declared.actor.Actor.TheVariants.{Exec, Drain}
use Rattle.tso_state.specs.declared.state.State.{State}

-- the actors below this position rise
pub record RiseTo (actors : List Actor) (n : ℕ) : Type 0 where
  pub each : (k : ℕ) (a b : Actor) → k + 1 < n → slice_get actors k ≡ Some a → slice_get actors (k + 1) ≡ Some b → number_of a < number_of b

-- none of the threads below this number has a step
pub record HaveNoStepTo (c : Client) (s : State) (n : ℕ) : Type 0 where
  pub each : (i : ℕ) → i < n → HasNoStep c s i

-- none of them is stopped
pub record AreNotStoppedTo (s : State) (n : ℕ) : Type 0 where
  pub each : (i : ℕ) → i < n → IsStoppedAt s i → ⊥

-- ---- rising actors

at_once : (choices : List Choice) (k : ℕ) (d : Choice) → k < length choices → slice_get (actors_of choices) k ≡ Some (get_or choices k d).actor
at_once choices k d lt = slice_get-map (λ (x : Choice). x.actor) choices k ∙ ap (option_map (λ (x : Choice). x.actor)) (slice_get-get_or choices k d lt)

pub rising_at : (choices : List Choice) (k : ℕ) (d e : Choice) → 1 ≤ k → k < length choices → IsRising (actors_of choices) → number_of (get_or choices (k - 1) d).actor < number_of (get_or choices k e).actor
rising_at choices k d e some lt rising =
    let before = at_once choices (k - 1) d (omega (arith, lt)) in
    let here = at_once choices k e lt in
    let next : k - 1 + 1 ≡ k = omega (arith, some) in
    rising (k - 1) (get_or choices (k - 1) d).actor (get_or choices k e).actor before (ap (slice_get (actors_of choices)) next ∙ here)

pub rise_more : (choices : List Choice) (k : ℕ) (d e : Choice) → 1 ≤ k → k < length choices → RiseTo (actors_of choices) k → number_of (get_or choices (k - 1) d).actor < number_of (get_or choices k e).actor
    → RiseTo (actors_of choices) (k + 1)
rise_more choices k d e some lt to less = record {
  each = λ n a b under at next. elim (cases_lt (n + 1) k) [
    | inl before ↦ to.each n a b before at next
    | inr ge ↦
        let same : k ≡ n + 1 = omega (arith, under, ge) in
        let first : (get_or choices (k - 1) d).actor ≡ a = same_Some _ a (sym (at_once choices (k - 1) d (omega (arith, lt))) ∙ ap (slice_get (actors_of choices)) (let s : k - 1 ≡ n = omega (arith, same) in s) ∙ at) in
        let second : (get_or choices k e).actor ≡ b = same_Some _ b (sym (at_once choices k e lt) ∙ ap (slice_get (actors_of choices)) same ∙ next) in
        subst (λ y. number_of a < number_of y) second (subst (λ x. number_of x < number_of (get_or choices k e).actor) first less)
  ];
}

pub rise_all : (choices : List Choice) (k : ℕ) → length choices ≤ k → RiseTo (actors_of choices) k → IsRising (actors_of choices)
rise_all choices k le to n a b at next =
    let lt = slice_get_within (actors_of choices) (n + 1) b next in
    let long = length-map choices (λ (x : Choice). x.actor) in
    to.each n a b (omega (arith, lt, long, le)) at next

pub rise_none : (actors : List Actor) → RiseTo actors 1
rise_none actors = record { each = λ k a b lt at next. absurd (omega (arith, lt)) }

-- ---- threads

pub no_step_more : (c : Client) (s : State) (n : ℕ) → HaveNoStepTo c s n → HasNoStep c s n → HaveNoStepTo c s (n + 1)
no_step_more c s n to last = record {
  each = λ i lt. elim (cases_lt i n) [
    | inl less ↦ to.each i less
    | inr ge ↦ subst (HasNoStep c s) (let same : n ≡ i = omega (arith, lt, ge) in same) last
  ];
}

pub all_over : (c : Client) (s : State) (n : ℕ) → length s.threads ≤ n → HaveNoStepTo c s n → IsOver c s
all_over c s n le to (Exec i) = elim (cases_lt i n) [ inl less ↦ (to.each i less).core | inr ge ↦ nobody c s (Exec i) (omega (arith, ge, le)) ]
all_over c s n le to (Drain i) = elim (cases_lt i n) [ inl less ↦ (to.each i less).buffer | inr ge ↦ nobody c s (Drain i) (omega (arith, ge, le)) ]

pub not_stopped_more : (s : State) (n : ℕ) → AreNotStoppedTo s n → (IsStoppedAt s n → ⊥) → AreNotStoppedTo s (n + 1)
not_stopped_more s n to last = record {
  each = λ i lt. elim (cases_lt i n) [
    | inl less ↦ to.each i less
    | inr ge ↦ subst (λ k. IsStoppedAt s k → ⊥) (let same : n ≡ i = omega (arith, lt, ge) in same) last
  ];
}

pub none_stopped : (s : State) (n : ℕ) → length s.threads ≤ n → AreNotStoppedTo s n → HasNoStopped s
none_stopped s n le to i at = let lt = slice_get_within s.threads i at.thread at.at in to.each i (omega (arith, lt, le)) at
