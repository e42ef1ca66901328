-- What a step needs, thread by thread.
use Rattle.std.proofs.Common.{◌≡◌, ◌∙◌, ℕ, ◌+◌, ◌≤◌, inl, inr, Bool, true, false, not, ◌&&◌, ◌||◌, ◌==◌, nat_lt, if◌then◌else◌, length, None, slice_get, refl, sym, ap, arith, ne_eqb}
use Rattle.std.specs.Prelude.{bit_or, is_some}
use Rattle.std.specs.Option.{option_and_then, option_map}
use Rattle.std.proofs.lemmas.Bool.{cases_eq, cases_lt, eqb-true, eq-eqb, lt-ltb, le-ltb}
use Rattle.std.proofs.lemmas.Option.{slice_get_past}
use Rattle.tso_choose.proofs.ClosureLemmas.{has_bit-or}
use Rattle.tso_choose.specs.Needs.{AreEnabled, is_apart, is_enabled, is_needed, is_wanted}
use Rattle.tso_choose.specs.Sets.{has}
use Rattle.tso_compact.specs.Plans.{kind_of_move, thread_in}
use Rattle.tso_compact.specs.declared.sort.StepKind.{StepKind}
use Rattle.tso_foot.specs.declared.table.Table.{Table}
use Rattle.tso_indep.specs.Reasons.{is_free, place_of}
use Rattle.tso_machine.specs.Programs.{program_of}
use Rattle.tso_model.specs.Prologue.{next_call}
use Rattle.tso_model.specs.Steps as steps
use Rattle.tso_prog.specs.declared.client.Client.{Client}
use Rattle.tso_state.proofs.ViewLemmas.{length-threads_view}
use Rattle.tso_state.specs.Actors.{is_drain, number_of, thread_of}
use Rattle.tso_state.specs.Views.{state_of}
use Rattle.tso_state.specs.declared.actor.Actor.{Actor}
use Rattle.tso_state.specs.declared.actor.Actor.TheVariants.{Exec, Drain}
use Rattle.tso_state.specs.declared.state.State.{State}

-- both sides where the test holds
under : (x : Bool) {y z : Bool} → (x ≡ true → y ≡ z) → (x && y) ≡ (x && z)
under true f = f refl
under false f = refl

and_false : (x : Bool) {y : Bool} → y ≡ false → (x && y) ≡ false
and_false true e = e
and_false false e = refl

-- ---- one thread

pub wanted_is : (c : Client) (s : State) (kind : StepKind) (other enabled set : ℕ) (core buffer served : Bool) → AreEnabled c s enabled
    → core ≡ has enabled (Exec other) → buffer ≡ has enabled (Drain other) → served ≡ (core && is_free (thread_in s other).buffer (place_of kind))
    → ((b : Actor) → has set b ≡ ((thread_of b == other) && (if is_drain b then (buffer && not served) else core)))
    → (b : Actor) → has set b ≡ ((thread_of b == other) && is_wanted c s kind b)
wanted_is c s kind other enabled set core buffer served on is_core is_buffer is_served all (Exec i) =
    all (Exec i) ∙ under (i == other) (λ e. is_core ∙ on (Exec other) ∙ ap (λ n. is_enabled c s (Exec n)) (sym (eqb-true i other e)))
wanted_is c s kind other enabled set core buffer served on is_core is_buffer is_served all (Drain i) =
    all (Drain i) ∙ under (i == other) (λ e.
    let there = is_buffer ∙ on (Drain other) in
    let serves = is_served ∙ ap (λ x. x && is_free (thread_in s other).buffer (place_of kind)) (is_core ∙ on (Exec other)) in
    let both = ap (λ x. x && not served) there ∙ ap (λ x. is_enabled c s (Drain other) && not x) serves in
    both ∙ ap (λ n. is_wanted c s kind (Drain n)) (sym (eqb-true i other e)))

-- ---- all threads

later : (i n : ℕ) (x : Bool) → ((nat_lt i n && x) || ((i == n) && x)) ≡ (nat_lt i (n + 1) && x)
later i n x = elim (cases_lt i n) [
  | inl less ↦ elim (cases_eq i n) [
    | inl same ↦ absurd (omega (arith, less, same))
    | inr other ↦ rw (lt-ltb i n less, ne_eqb i n other, lt-ltb i (n + 1) (omega (arith, less))) (or_none x)
  ]
  | inr ge ↦ elim (cases_eq i n) [
    | inl same ↦ rw (le-ltb i n ge, eq-eqb i n same, lt-ltb i (n + 1) (omega (arith, same))) refl
    | inr other ↦ rw (le-ltb i n ge, ne_eqb i n other, le-ltb i (n + 1) (omega (arith, ge, other))) refl
  ]
]
  where
    or_none : (x : Bool) → (x || false) ≡ x
    or_none true = refl
    or_none false = refl

pub needed_next : (set more i n : ℕ) (x : Bool) (b : Actor) → has set b ≡ (nat_lt i n && x) → has more b ≡ ((i == n) && x) → has (bit_or set more) b ≡ (nat_lt i (n + 1) && x)
needed_next set more i n x b e f = has_bit-or set more (number_of b) ∙ ap (λ y. y || has more b) e ∙ ap (λ y. (nat_lt i n && x) || y) f ∙ later i n x

-- a thread that is not there has no step
no_kind : (c : Client) (s : State) (b : Actor) → slice_get (state_of s).threads (thread_of b) ≡ None → is_enabled c s b ≡ false
no_kind c s (Exec i) e = ap (λ o. is_some (option_map kind_of_move (option_and_then (λ t. steps.core_move (program_of c) (next_call (program_of c) (state_of s) i) t.core t.buffer) o))) e
no_kind c s (Drain i) e = ap (λ o. is_some (option_map kind_of_move (option_and_then (λ t. steps.drain_move t.core t.buffer) o))) e

pub nobody : (c : Client) (s : State) (b : Actor) → length s.threads ≤ thread_of b → is_enabled c s b ≡ false
nobody c s b ge = no_kind c s b (slice_get_past (state_of s).threads (thread_of b) (let same = length-threads_view s.history s.threads in omega (arith, ge, same)))

not_wanted : (c : Client) (s : State) (kind : StepKind) (b : Actor) → is_enabled c s b ≡ false → is_wanted c s kind b ≡ false
not_wanted c s kind (Exec j) e = e
not_wanted c s kind (Drain j) e = ap (λ x. x && not (is_enabled c s (Exec j) && is_free (thread_in s j).buffer (place_of kind))) e

pub not_needed : (c : Client) (t : Table) (s : State) (kind : StepKind) (i : ℕ) (b : Actor) → is_enabled c s b ≡ false → is_needed c t s kind i b ≡ false
not_needed c t s kind i b e = and_false (not (thread_of b == i)) (and_false (not (is_apart c t s kind (thread_of b))) (not_wanted c s kind b e))

pub needed_all : (c : Client) (t : Table) (s : State) (kind : StepKind) (own n set : ℕ) (b : Actor) → length s.threads ≤ n → has set b ≡ (nat_lt (thread_of b) n && is_needed c t s kind own b)
    → has set b ≡ is_needed c t s kind own b
needed_all c t s kind own n set b ge e = elim (cases_lt (thread_of b) n) [
  | inl less ↦ e ∙ ap (λ x. x && is_needed c t s kind own b) (lt-ltb (thread_of b) n less)
  | inr past ↦ e ∙ ap (λ x. x && is_needed c t s kind own b) (le-ltb (thread_of b) n past) ∙ sym (not_needed c t s kind own b (nobody c s b (omega (arith, past, ge))))
]
