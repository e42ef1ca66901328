-- Whether states are worked, from halves.
use Rattle.std.proofs.Common.{◌≡◌, ◌∙◌, ℕ, ◌+◌, ◌≤◌, inl, inr, List, length, slice_get, refl, sym, ap, subst, arith}
use Rattle.std.proofs.lemmas.Bool.{cases_lt}
use Rattle.std.proofs.lemmas.Option.{slice_get_within}
use Rattle.tso_explore.specs.Asked.{AreHalvesAsked, AreWorkedIn, CanBeAsked, Range, asked}
use Rattle.tso_foot.specs.declared.table.Table.{Table}
use Rattle.tso_prog.specs.declared.client.Client.{Client}
use Rattle.tso_search.specs.BySteps.{AreSearched, AreWorkedBetween, HasBegun, IsWorkedAt}
use Rattle.tso_state.specs.declared.state.State.{State}

pub both_worked : (whole left right : Range) → AreHalvesAsked whole left right → AreWorkedIn left → AreWorkedIn right → AreWorkedIn whole
both_worked whole left right halves first second =
    let P : Range → Type 0 = AreWorkedIn in
    let low = subst P halves.left_is first in
    let high = subst P halves.right_is second in
    λ n from to. elim (cases_lt n halves.middle) [
      | inl less ↦ low n from less
      | inr ge ↦ high n ge to
    ]

-- a range cut in two
pub asked_in_two : (kept c : Client) (t : Table) (states : List State) (from middle to : ℕ) → from ≤ middle → middle ≤ to → CanBeAsked kept (asked c t states from to)
    → AreHalvesAsked (asked c t states from to) (asked c t states from middle) (asked c t states middle to) × CanBeAsked kept (asked c t states from middle) × CanBeAsked kept (asked c t states middle to)
asked_in_two kept c t states from middle to low high ready =
    let there = ready.there in (
      record { middle = middle; left_is = refl; right_is = refl },
      record { client = ready.client; begun = ready.begun; ordered = low; there = omega (arith, high, there) },
      record { client = ready.client; begun = ready.begun; ordered = high; there = there },
    )

-- and one more
pub one_more_worked : (c : Client) (t : Table) (states : List State) (from to : ℕ) → AreWorkedBetween c t states from to → IsWorkedAt c t states to → AreWorkedBetween c t states from (to + 1)
one_more_worked c t states from to all one n low high s at = elim (cases_lt n to) [
  | inl less ↦ all n low less s at
  | inr ge ↦ let same : n ≡ to = omega (arith, ge, high) in one s (ap (slice_get states) (sym same) ∙ at)
]

-- all of them
pub all_worked : (c : Client) (t : Table) (states : List State) (count : ℕ) → HasBegun c states → count ≡ length states → AreWorkedBetween c t states 0 count → AreSearched c t states
all_worked c t states count begun is worked = record {
  begun = record { initial = begun.initial; initial_at = begun.initial_at; initial_is = begun.initial_is; met = begun.met };
  worked = λ n s at. let lt = slice_get_within states n s at in worked n (omega arith) (omega (arith, lt, is)) s at;
}
