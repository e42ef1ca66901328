-- From what a store says of numbers to what is judged of records.
use Rattle.std.proofs.Common.{◌≡◌, ◌∙◌, ℕ, zero, suc, ◌<◌, List, [], ◌∷◌, length, Option, Some, None, slice_get, refl, sym, ap, subst, arith}
use Rattle.std.specs.Prelude.{Contains, is_some}
use Rattle.std.proofs.lemmas.Option.{same_Some, slice_get-get_or}
use Rattle.tso_cert.proofs.LookupLemmas.{is_there}
use Rattle.tso_check.proofs.VerdictLemmas.{initial_there}
use Rattle.tso_check.specs.Numbered.{AreKeptFrom, IsJudgedAt, IsKeptFrom}
use Rattle.tso_compact.specs.Laws.{initial_of}
use Rattle.tso_compact.specs.Plans.{IsStep}
use Rattle.tso_foot.specs.Within.{IsWithin}
use Rattle.tso_foot.specs.declared.table.Table.{Table}
use Rattle.tso_judge.proofs.JudgeLemmas.{all_met, alone_first, not_kept, not_within}
use Rattle.tso_rec.specs.Bases.{by_steps}
use Rattle.tso_rec.specs.Conditions.{IsKeptAfter, SuccessorsAreKept}
use Rattle.tso_judge.specs.Judging.{IsJudgedAlone}
use Rattle.tso_judge.specs.Valid.{ContainsInitial}
use Rattle.tso_judge.specs.declared.code.Code.{Code}
use Rattle.tso_judge.specs.declared.code.Code.TheVariants as faults
use Rattle.tso_prog.specs.declared.client.Client.{Client}
use Rattle.tso_rec.specs.declared.record.End.{End}
use Rattle.tso_rec.specs.declared.record.End.TheVariants.{Choices, Order}
use Rattle.tso_state.specs.Views.{state_of}
use Rattle.tso_state.specs.declared.actor.Actor.{Actor}
use Rattle.tso_state.specs.declared.state.State.{State}
use Rattle.tso_parts.specs.Numbers.{IsNowhere}
use Rattle.tso_store.specs.Sheets.{CanStep, IsSuccessorNowhere}

pub at_place : {X : Type 0} (xs : List X) (k : ℕ) → k < length xs → (x : X) × (slice_get xs k ≡ Some x)
at_place [] k lt = absurd (omega (arith, lt))
at_place (x ∷ xs) zero lt = (x, refl)
at_place (x ∷ xs) (suc k) lt = at_place xs k (omega (arith, lt))

contains_at : {X : Type 0} (xs : List X) (x : X) → Contains xs x → (k : ℕ) × (slice_get xs k ≡ Some x)
contains_at xs x (k, lt, is) = (k, slice_get-get_or xs k x lt ∙ ap Some is)

-- ---- the initial state

pub initial_found : (c : Client) (states : List State) (s : State) (n : ℕ) → state_of s ≡ initial_of c → slice_get states n ≡ Some s → ContainsInitial c states
initial_found c states s n first at = record { initial = s; first = first; there = is_there states s n at }

pub initial_lost : (c : Client) (states : List State) (s : State) → state_of s ≡ initial_of c → IsNowhere states s → ContainsInitial c states → ⊥
initial_lost c states s first nowhere h = let (n, at) = contains_at states s (initial_there c states s first h) in nowhere n at

-- ---- successors

module _ (c : Client) (states : List State) (n : ℕ) where
  pub none_kept : (a : Actor) → IsSuccessorNowhere c states n a → IsKeptFrom c states n a → ⊥
  none_kept a nowhere k = nowhere k.kept.from k.kept.to k.kept.at k.kept.step k.number k.kept.number

  pub no_step : (a : Actor) → (CanStep c states n a → ⊥) → IsKeptFrom c states n a → ⊥
  no_step a none k = none (record { from = k.kept.from; at = k.kept.at; step = ap is_some k.kept.step })

  module _ (s : State) (at : slice_get states n ≡ Some s) where
    after_from : (a : Actor) → IsKeptFrom c states n a → IsKeptAfter c states s a
    after_from a k =
        let same : k.kept.from ≡ s = same_Some k.kept.from s (sym k.kept.at ∙ at) in
        record { after = k.kept.to; step = subst (λ f. IsStep c f a k.kept.to) same k.kept.step; kept = is_there states k.kept.to k.number k.kept.number }

    from_after : (a : Actor) → IsKeptAfter c states s a → IsKeptFrom c states n a
    from_after a k = let (m, there) = contains_at states k.after k.kept in record { number = m; kept = record { from = s; to = k.after; at = at; step = k.step; number = there } }

    are_kept : (t : Table) (e : End) → AreKeptFrom c states n e → SuccessorsAreKept c (by_steps t) states s e
    are_kept t (Choices choices) kept = λ k d lt. after_from _ (kept k d lt)
    are_kept t (Order order) kept = tt

    kept_are : (t : Table) (e : End) → SuccessorsAreKept c (by_steps t) states s e → AreKeptFrom c states n e
    kept_are t (Choices choices) kept = λ k d lt. from_after _ (kept k d lt)
    kept_are t (Order order) kept = tt

  -- ---- one record

  module _ (t : Table) (view : State) (e : End) (found : slice_get states n ≡ Some view) where
    alone_at : (s : State) (code : Option Code) → slice_get states n ≡ Some s → IsJudgedAlone c (by_steps t) view e code → IsJudgedAlone c (by_steps t) s e code
    alone_at s code at alone = subst (λ v. IsJudgedAlone c (by_steps t) v e code) (same_Some view s (sym found ∙ at)) alone

    pub fails_alone : (code : Code) → IsJudgedAlone c (by_steps t) view e (Some code) → IsJudgedAt c t states n e (Some code)
    fails_alone code alone s at = alone_first c (by_steps t) states s e code (alone_at s (Some code) at alone)

    within_at : (s : State) → slice_get states n ≡ Some s → IsWithin t view → IsWithin t s
    within_at s at within = subst (IsWithin t) (same_Some view s (sym found ∙ at)) within

    pub meets_all : IsJudgedAlone c (by_steps t) view e None → AreKeptFrom c states n e → IsWithin t view → IsJudgedAt c t states n e None
    meets_all alone kept within s at = all_met c (by_steps t) states s e (alone_at s None at alone) (are_kept s at t e kept) (within_at s at within)

    pub lies_elsewhere : IsJudgedAlone c (by_steps t) view e None → AreKeptFrom c states n e → (IsWithin t view → ⊥) → IsJudgedAt c t states n e (Some faults.K12)
    lies_elsewhere alone kept fails s at =
        not_within c (by_steps t) states s e (alone_at s None at alone) (are_kept s at t e kept) (λ w. fails (subst (IsWithin t) (same_Some s view (sym at ∙ found)) w))

    pub fails_among : IsJudgedAlone c (by_steps t) view e None → (AreKeptFrom c states n e → ⊥) → IsJudgedAt c t states n e (Some faults.K08)
    fails_among alone fails s at = not_kept c (by_steps t) states s e (alone_at s None at alone) (λ k. fails (kept_are s at t e k))
