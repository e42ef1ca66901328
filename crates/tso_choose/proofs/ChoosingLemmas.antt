-- Which actors are chosen, by numbers and by actors.
use Rattle.std.proofs.Common.{◌≡◌, ◌∙◌, ℕ, zero, suc, ◌+◌, ◌*◌, ◌/◌, ◌%◌, ◌≤◌, ◌<◌, inl, inr, Bool, true, false, ◌&&◌, ◌||◌, ◌==◌, if◌then◌else◌, List, length, Option, None, Some, slice_index_or, slice_set, refl, sym, ap, subst, arith, ne_eqb, length-set}
use Rattle.std.specs.Prelude.{is_some, IsTrue}
use Rattle.std.proofs.lemmas.Bool.{and_from, cases_eq, cases_lt, eq-eqb}
use Rattle.std.proofs.lemmas.List.{get_or-set_other, get_or-set_same, get_or_past}
use Rattle.std.proofs.lemmas.Nat.Bits.{bit_at-zero}
use Rattle.std.proofs.Math.Nat.{div-add-mod, mod-lt}
use Rattle.tso_choose.proofs.NeedLemmas.{nobody}
use Rattle.tso_choose.specs.Choosing as Choosing
use Rattle.tso_choose.specs.Choosing.{AreKinds, AreNeeds, HasNeeds, HasNoLone, IsChoice, IsFirstLone, IsLeast, IsLoneAt, IsSmallestOf, is_lone, is_lone_if}
use Rattle.tso_choose.specs.Closures.{GoesBefore, has_bit, needs_at, IsClosed, IsClosure, IsSmallest}
use Rattle.tso_choose.specs.Needs.{AreEnabled, is_enabled, is_needed, is_needed_if, needs}
use Rattle.tso_choose.specs.Sets.{actor_at, has}
use Rattle.tso_compact.specs.declared.sort.StepKind.{StepKind}
use Rattle.tso_foot.specs.declared.table.Table.{Table}
use Rattle.tso_indep.specs.Reasons.{is_actor, kind_in}
use Rattle.tso_prog.specs.declared.client.Client.{Client}
use Rattle.tso_state.specs.Actors.{number_of, thread_of}
use Rattle.tso_state.specs.declared.actor.Actor.{Actor}
use Rattle.tso_state.specs.declared.actor.Actor.TheVariants.{Exec, Drain}
use Rattle.tso_state.specs.declared.state.State.{State}

-- ---- numbers of actors

whole : (n : ℕ) → 2 * (n / 2) + n % 2 ≡ n
whole n = div-add-mod n 2

rest_below : (n : ℕ) → n % 2 < 2
rest_below n = mod-lt n (omega arith)

actor_by : (i r : ℕ) → r < 2 → number_of (if r == 0 then Exec i else Drain i) ≡ 2 * i + r
actor_by i zero lt = omega arith
actor_by i (suc zero) lt = refl
actor_by i (suc (suc r)) lt = absurd (omega (arith, lt))

pub number_at : (n : ℕ) → number_of (actor_at n) ≡ n
number_at n = actor_by (n / 2) (n % 2) (rest_below n) ∙ whole n

pub thread_at : (n : ℕ) → thread_of (actor_at n) ≡ n / 2
thread_at n = by (n / 2) (n % 2 == 0)
  where
    by : (i : ℕ) (even : Bool) → thread_of (if even then Exec i else Drain i) ≡ i
    by i true = refl
    by i false = refl

-- two actors with one number are one
pub same_actor : (a b : Actor) → number_of a ≡ number_of b → a ≡ b
same_actor (Exec i) (Exec j) e = ap Exec (omega (arith, e))
same_actor (Exec i) (Drain j) e = absurd (omega (arith, e))
same_actor (Drain i) (Exec j) e = absurd (omega (arith, e))
same_actor (Drain i) (Drain j) e = ap Drain (omega (arith, e))

pub at_number : (a : Actor) → actor_at (number_of a) ≡ a
at_number a = same_actor (actor_at (number_of a)) a (number_at (number_of a))

and_no : (x : Bool) → (x && false) ≡ false
and_no true = refl
and_no false = refl

self : (a : Actor) → is_actor a a ≡ true
self (Exec i) = and_from (i == i) true (eq-eqb i i refl) refl
self (Drain i) = and_from (i == i) true (eq-eqb i i refl) refl

not_self : (a b : Actor) → (number_of b ≡ number_of a → ⊥) → is_actor a b ≡ false
not_self (Exec i) (Exec j) n = ap (λ x. x && true) (ne_eqb i j (λ e. n (omega (arith, e))))
not_self (Exec i) (Drain j) n = and_no (i == j)
not_self (Drain i) (Exec j) n = and_no (i == j)
not_self (Drain i) (Drain j) n = ap (λ x. x && true) (ne_eqb i j (λ e. n (omega (arith, e))))

pub same_number : (a b : Actor) → (number_of b == number_of a) ≡ is_actor a b
same_number a b = elim (cases_eq (number_of b) (number_of a)) [
  | inl same ↦ eq-eqb (number_of b) (number_of a) same ∙ sym (self a) ∙ ap (is_actor a) (same_actor a b (sym same))
  | inr other ↦ ne_eqb (number_of b) (number_of a) other ∙ sym (not_self a b other)
]

-- a number below a bound plus one is below it or the bound itself
next_number : (P : ℕ → Type 0) (n : ℕ) → ((m : ℕ) → m < n → P m) → P n → (m : ℕ) → m < n + 1 → P m
next_number P n before own m lt = elim (cases_lt m n) [
  | inl less ↦ before m less
  | inr ge ↦ subst P (let at : n ≡ m = omega (arith, lt, ge) in at) own
]

-- ---- the survey of kinds

pub record IsSurvey (c : Client) (s : State) (n : ℕ) (kinds : List (Option StepKind)) : Type 0 where
  pub size : length kinds ≡ 10
  pub seen : (m : ℕ) → m < n → slice_index_or kinds m None ≡ kind_in c s (actor_at m)
  pub waits : (m : ℕ) → m < n → is_lone c s (actor_at m) ≡ false
  pub blank : (m : ℕ) → n ≤ m → slice_index_or kinds m None ≡ None

pub first_survey : (c : Client) (s : State) (kinds : List (Option StepKind)) → length kinds ≡ 10 → ((n : ℕ) → slice_index_or kinds n None ≡ None) → IsSurvey c s 0 kinds
first_survey c s kinds size blank = record {
  size = size;
  seen = λ m lt. absurd (omega (arith, lt));
  waits = λ m lt. absurd (omega (arith, lt));
  blank = λ m le. blank m;
}

pub next_survey : (c : Client) (s : State) (n : ℕ) (kinds : List (Option StepKind)) (kind : Option StepKind) → IsSurvey c s n kinds → n < 10 → kind ≡ kind_in c s (actor_at n) → is_lone_if kind ≡ false
    → IsSurvey c s (n + 1) (slice_set kinds n kind)
next_survey c s n kinds kind known lt is waits =
    let inside : n < length kinds = omega (arith, lt, known.size) in
    let own : slice_index_or (slice_set kinds n kind) n None ≡ kind = get_or-set_same kinds n kind None inside in
    let other : (m : ℕ) → (m ≡ n → ⊥) → slice_index_or (slice_set kinds n kind) m None ≡ slice_index_or kinds m None = λ m apart. get_or-set_other kinds n m kind None apart in
    record {
      size = length-set kinds n kind ∙ known.size;
      seen = next_number (λ m. slice_index_or (slice_set kinds n kind) m None ≡ kind_in c s (actor_at m)) n (λ m less. other m (λ e. omega (arith, less, e)) ∙ known.seen m less) (own ∙ is);
      waits = next_number (λ m. is_lone c s (actor_at m) ≡ false) n known.waits (ap is_lone_if (sym is) ∙ waits);
      blank = λ m le. other m (λ e. omega (arith, le, e)) ∙ known.blank m (omega (arith, le));
    }

pub lone_at : (c : Client) (s : State) (n : ℕ) (kinds : List (Option StepKind)) (kind : Option StepKind) → IsSurvey c s n kinds → n < 10 → kind ≡ kind_in c s (actor_at n) → is_lone_if kind ≡ true
    → IsLoneAt c s n
lone_at c s n kinds kind known lt is lone = record {
  small = omega (arith, lt);
  is = record {
    lone = ap is_lone_if (sym is) ∙ lone;
    first = λ b less. subst (λ x. is_lone c s x ≡ false) (at_number b) (known.waits (number_of b) (let at = number_at n in omega (arith, less, at)));
  };
}

nobody_at : (c : Client) (s : State) (n m : ℕ) → 2 * length s.threads ≤ n → n ≤ m → kind_in c s (actor_at m) ≡ None
nobody_at c s n m ge le = none_from (kind_in c s (actor_at m)) (nobody c s (actor_at m) (let at = thread_at m in let all = whole m in let small = rest_below m in omega (arith, ge, le, at, all, small)))
  where
    none_from : (o : Option StepKind) → is_some o ≡ false → o ≡ None
    none_from None e = refl
    none_from (Some k) e = absurd cc

pub all_kinds : (c : Client) (s : State) (n : ℕ) (kinds : List (Option StepKind)) → IsSurvey c s n kinds → 2 * length s.threads ≤ n → AreKinds c s kinds
all_kinds c s n kinds known ge m = elim (cases_lt m n) [
  | inl less ↦ known.seen m less
  | inr le ↦ known.blank m le ∙ sym (nobody_at c s n m ge le)
]

pub no_lone : (c : Client) (s : State) (n : ℕ) (kinds : List (Option StepKind)) → IsSurvey c s n kinds → 2 * length s.threads ≤ n → HasNoLone c s
no_lone c s n kinds known ge a = subst (λ x. is_lone c s x ≡ false) (at_number a) (elim (cases_lt (number_of a) n) [
  | inl less ↦ known.waits (number_of a) less
  | inr le ↦ ap is_lone_if (nobody_at c s n (number_of a) ge le)
])

-- ---- what is noted of needs

pub record AreNoted (c : Client) (t : Table) (s : State) (n : ℕ) (sets : List ℕ) : Type 0 where
  pub noted : (m : ℕ) (b : Actor) → m < n → has (needs_at sets m) b ≡ needs c t s (actor_at m) b
  pub blank : (m : ℕ) → n ≤ m → needs_at sets m ≡ 0

pub first_noted : (c : Client) (t : Table) (s : State) (sets : List ℕ) → ((n : ℕ) → slice_index_or sets n 0 ≡ 0) → AreNoted c t s 0 sets
first_noted c t s sets blank = record {
  noted = λ m b lt. absurd (omega (arith, lt));
  blank = λ m le. blank m;
}

none_of_zero : (b : Actor) → has 0 b ≡ false
none_of_zero b = ap (λ n. n == 1) (bit_at-zero (number_of b))

-- one that has no step needs nothing
pub no_step_noted : (c : Client) (t : Table) (s : State) (n : ℕ) (sets : List ℕ) → AreNoted c t s n sets → kind_in c s (actor_at n) ≡ None → AreNoted c t s (n + 1) sets
no_step_noted c t s n sets known none = record {
  noted = λ m b lt. next_number (λ x. has (needs_at sets x) b ≡ needs c t s (actor_at x) b) n (λ x less. known.noted x b less)
      (ap (λ x. has x b) (known.blank n (omega arith)) ∙ none_of_zero b ∙ sym (ap (λ o. is_needed_if c t s o (thread_of (actor_at n)) b) none)) m lt;
  blank = λ m le. known.blank m (omega (arith, le));
}

pub step_noted : (c : Client) (t : Table) (s : State) (n : ℕ) (sets : List ℕ) (set : ℕ) (kind : StepKind) → AreNoted c t s n sets → n < length sets → kind_in c s (actor_at n) ≡ Some kind
    → ((b : Actor) → has set b ≡ is_needed c t s kind (n / 2) b) → AreNoted c t s (n + 1) (slice_set sets n set)
step_noted c t s n sets set kind known inside is all =
    let own : needs_at (slice_set sets n set) n ≡ set = get_or-set_same sets n set 0 inside in
    let other : (m : ℕ) → (m ≡ n → ⊥) → needs_at (slice_set sets n set) m ≡ needs_at sets m = λ m apart. get_or-set_other sets n m set 0 apart in
    record {
      noted = λ m b lt. next_number (λ x. has (needs_at (slice_set sets n set) x) b ≡ needs c t s (actor_at x) b) n
          (λ x less. ap (λ y. has y b) (other x (λ e. omega (arith, less, e))) ∙ known.noted x b less)
          (ap (λ y. has y b) own ∙ all b ∙ ap (λ i. is_needed c t s kind i b) (sym (thread_at n)) ∙ sym (ap (λ o. is_needed_if c t s o (thread_of (actor_at n)) b) is)) m lt;
      blank = λ m le. other m (λ e. omega (arith, le, e)) ∙ known.blank m (omega (arith, le));
    }

pub all_noted : (c : Client) (t : Table) (s : State) (n : ℕ) (sets : List ℕ) (kinds : List (Option StepKind)) → AreNoted c t s n sets → AreKinds c s kinds → length kinds ≤ n → AreNeeds c t s sets
all_noted c t s n sets kinds known are le m b = elim (cases_lt m n) [
  | inl less ↦ known.noted m b less
  | inr ge ↦
      let none : kind_in c s (actor_at m) ≡ None = sym (are m) ∙ get_or_past kinds m None (omega (arith, le, ge)) in
      ap (λ x. has x b) (known.blank m ge) ∙ none_of_zero b ∙ sym (ap (λ o. is_needed_if c t s o (thread_of (actor_at m)) b) none)
]

-- ---- least sets, by numbers and by actors

module _ (c : Client) (t : Table) (s : State) (sets : List ℕ) (are : AreNeeds c t s sets) where
  has_needs : (set : ℕ) → IsClosed sets set → HasNeeds c t s set
  has_needs set closed a b there need =
      closed (number_of a) there (number_of b) (are (number_of a) b ∙ ap (λ x. needs c t s x b) (at_number a) ∙ need)

  is_closed : (set : ℕ) → HasNeeds c t s set → IsClosed sets set
  is_closed set needed k there j h =
      let a = actor_at k in
      let b = actor_at j in
      let there_too : has set a ≡ true = ap (has_bit set) (number_at k) ∙ there in
      let need : needs c t s a b ≡ true = sym (are k b) ∙ ap (has_bit (needs_at sets k)) (number_at j) ∙ h in
      ap (has_bit set) (sym (number_at j)) ∙ needed a b there_too need

  pub least_at : (k set : ℕ) → IsClosure sets k set → IsLeast c t s (actor_at k) set
  least_at k set f = record {
    own = ap (has_bit set) (number_at k) ∙ f.has;
    needed = has_needs set f.closed;
    least = λ other there needed. f.least other (ap (has_bit other) (sym (number_at k)) ∙ there) (is_closed other needed);
  }

  pub closure_of : (a : Actor) (set : ℕ) → IsLeast c t s a set → IsClosure sets (number_of a) set
  closure_of a set f = record {
    has = f.own;
    closed = is_closed set f.needed;
    least = λ other there closed. f.least other there (has_needs other closed);
  }

  pub chosen_together : (enabled set : ℕ) → AreEnabled c s enabled → HasNoLone c s → IsSmallest sets enabled set → IsChoice c t s set
  chosen_together enabled set on lone f =
      Choosing.Together (actor_at f.number) lone (record {
        enabled = sym (on (actor_at f.number)) ∙ ap (has_bit enabled) (number_at f.number) ∙ f.has;
        least = least_at f.number set f.closure;
        first = λ b other there g. subst (λ n. GoesBefore set n other (number_of b)) (sym (number_at f.number)) (f.first (number_of b) other (on b ∙ there) (closure_of b other g));
      })

pub chosen_alone : (c : Client) (t : Table) (s : State) (n set : ℕ) → IsLoneAt c s n → ((k : ℕ) → has_bit set k ≡ (has_bit 0 k || (k == n))) → IsChoice c t s set
chosen_alone c t s n set lone is =
    let a = actor_at n in
    Choosing.Alone a lone.is (λ b. is (number_of b) ∙ ap (λ x. x || (number_of b == n)) (none_of_zero b) ∙ ap (λ m. number_of b == m) (sym (number_at n)) ∙ same_number a b)

pub chosen_nobody : (c : Client) (t : Table) (s : State) (enabled : ℕ) → AreEnabled c s enabled → ((k : ℕ) → IsTrue (has_bit enabled k) → ⊥) → IsChoice c t s 0
chosen_nobody c t s enabled on none = Choosing.Nobody (λ b. sym (on b) ∙ no (has enabled b) (none (number_of b))) refl
  where
    no : (x : Bool) → (x ≡ true → ⊥) → x ≡ false
    no true f = absurd (f refl)
    no false f = refl

pub are_enabled : (c : Client) (s : State) (kinds : List (Option StepKind)) (set : ℕ) → AreKinds c s kinds → ((k : ℕ) → has_bit set k ≡ is_some (slice_index_or kinds k None)) → AreEnabled c s set
are_enabled c s kinds set are is a = is (number_of a) ∙ ap is_some (are (number_of a)) ∙ ap (is_enabled c s) (at_number a)
