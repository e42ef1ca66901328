-- What is chosen is determined, and valid; what is valid is persistent.
use Rattle.std.proofs.Common.{◌≡◌, ◌≢◌, ◌∙◌, ℕ, zero, suc, ◌+◌, ◌*◌, ◌^◌, ◌≤◌, ◌<◌, ◌⊎◌, inl, inr, Bool, true, false, not, ◌||◌, ◌==◌, if◌then◌else◌, List, [], ◌∷◌, ◌++◌, length, map, Option, None, Some, slice_get, get_or, refl, sym, ap, subst, arith, ne_eqb}
use Rattle.std.specs.Prelude.{bit_or, is_none, is_some}
use Rattle.std.specs.Int.{bit_at}
use Rattle.std.specs.Option.{option_map}
use Rattle.std.proofs.lemmas.Bool.{and_parts, and_from, cases_eq, cases_lt, eqb-true, eq-eqb}
use Rattle.std.proofs.lemmas.List.{length-append, length-map}
use Rattle.std.proofs.lemmas.Nat.Bits.{bit_at-pow_same, bit_at-pow_other, bit_at-zero}
use Rattle.std.proofs.lemmas.Option.{same_Some, slice_get_within, slice_get-get_or}
use Rattle.tso_choose.proofs.ChoosingLemmas.{at_number, number_at, same_actor}
use Rattle.tso_choose.proofs.ClosureLemmas.{has_bit-or}
use Rattle.tso_foot.proofs.BitLemmas.{same_masks}
use Rattle.tso_choose.proofs.NeedLemmas.{nobody}
use Rattle.tso_choose.specs.Choices.{AreReasons, AreValid, IsRising, actors_below, actors_of, choice_of, choices_of, position_of, reason_for, reasons_below, reasons_if}
use Rattle.tso_choose.specs.Choosing as Choosing
use Rattle.tso_choose.specs.Choosing.{HasNeeds, HasNoLone, IsChoice, IsFirstLone, IsLeast, IsSmallestOf, is_lone, is_lone_if}
use Rattle.tso_choose.specs.Closures.{GoesBefore, has_bit, IsIn}
use Rattle.tso_choose.specs.Laws.{ChoicesAreDetermined, ChosenAreValid, ValidChoicesArePersistent}
use Rattle.tso_choose.specs.Needs.{is_apart, is_enabled, is_needed, is_needed_if, is_served, is_wanted, needs}
use Rattle.tso_choose.specs.Sets.{IsOnly, actor_at, has}
use Rattle.tso_choose.specs.declared.choice.Choice.{Choice}
use Rattle.tso_compact.specs.Plans.{kind_of_move}
use Rattle.tso_compact.specs.declared.sort.StepKind.{StepKind}
use Rattle.tso_compact.specs.declared.sort.StepKind.TheVariants as kinds
use Rattle.tso_foot.specs.declared.table.Table.{Table}
use Rattle.tso_indep.proofs.ReasonLemmas.{valid_choices_are_persistent as true_reasons_are_persistent}
use Rattle.tso_indep.specs.Laws.{IsValid}
use Rattle.tso_indep.specs.Reasons.{is_actor, is_among, is_held, is_local, is_reason, is_reason_if, is_return, kind_in}
use Rattle.tso_indep.specs.declared.reason.Reason.{Reason}
use Rattle.tso_indep.specs.declared.reason.Reason.TheVariants as reasons
use Rattle.tso_machine.specs.Programs.{program_of}
use Rattle.tso_model.specs.Reduce.{Has}
use Rattle.tso_model.specs.Steps as steps
use Rattle.tso_prog.specs.declared.client.Client.{Client}
use Rattle.tso_state.specs.ActorExactness.{actor_exact}
use Rattle.tso_state.specs.Actors.{actor_of, number_of, thread_of}
use Rattle.tso_state.specs.Views.{state_of}
use Rattle.tso_state.specs.declared.actor.Actor.{Actor}
use Rattle.tso_state.specs.declared.actor.Actor.TheVariants.{Exec, Drain}
use Rattle.tso_state.specs.declared.state.State.{State}

-- ---- lists with one item more

got_before : {X : Type 0} (xs : List X) (y : X) (k : ℕ) → k < length xs → slice_get (xs ++ y ∷ []) k ≡ slice_get xs k
got_before [] y k lt = absurd (omega (arith, lt))
got_before (x ∷ xs) y zero lt = refl
got_before (x ∷ xs) y (suc k) lt = got_before xs y k (omega (arith, lt))

got_last : {X : Type 0} (xs : List X) (y : X) (k : ℕ) → k ≡ length xs → slice_get (xs ++ y ∷ []) k ≡ Some y
got_last [] y zero e = refl
got_last [] y (suc k) e = absurd (omega (arith, e))
got_last (x ∷ xs) y zero e = absurd (omega (arith, e))
got_last (x ∷ xs) y (suc k) e = got_last xs y k (omega (arith, e))

got_either : {X : Type 0} (xs : List X) (y : X) (k : ℕ) (x : X) → slice_get (xs ++ y ∷ []) k ≡ Some x → ((k < length xs) × (slice_get xs k ≡ Some x)) ⊎ ((k ≡ length xs) × (y ≡ x))
got_either xs y k x e = elim (cases_lt k (length xs)) [
  | inl less ↦ inl (less, sym (got_before xs y k less) ∙ e)
  | inr ge ↦
      let within = slice_get_within (xs ++ y ∷ []) k x e in
      let long = length-append xs (y ∷ []) in
      let at : k ≡ length xs = omega (arith, ge, within, long) in
      inr (at, same_Some y x (sym (got_last xs y k at) ∙ e))
]

-- ---- tests

none_of_false : {X : Type 0} (o : Option X) → is_some o ≡ false → o ≡ None
none_of_false None e = refl
none_of_false (Some x) e = absurd cc

some_of_true : {X : Type 0} (o : Option X) → is_some o ≡ true → (x : X) × (o ≡ Some x)
some_of_true None e = absurd cc
some_of_true (Some x) e = (x, refl)

no_clash : (x : Bool) → x ≡ true → x ≡ false → ⊥
no_clash true e f = let clash : true ≡ false = f in cc
no_clash false e f = let clash : false ≡ true = e in cc

or_cases : (x y : Bool) → (x || y) ≡ true → (x ≡ true) ⊎ (y ≡ true)
or_cases true y e = inl refl
or_cases false y e = inr e

or_second : (x : Bool) {y : Bool} → y ≡ true → (x || y) ≡ true
or_second true e = refl
or_second false e = e

either_bool : (x : Bool) → (x ≡ true) ⊎ (x ≡ false)
either_bool true = inl refl
either_bool false = inr refl

-- an actor with a lone step has a step
lone_enabled : (c : Client) (s : State) (a : Actor) → is_lone c s a ≡ true → is_enabled c s a ≡ true
lone_enabled c s a h = go (kind_in c s a) h
  where
    go : (o : Option StepKind) → is_lone_if o ≡ true → is_some o ≡ true
    go None e = absurd (no_clash false e refl)
    go (Some k) e = refl

-- ---- there is one choice

-- sets with the same actors are the same
sets_alike : (m n : ℕ) → ((a : Actor) → has m a ≡ true → has n a ≡ true) → IsIn m n
sets_alike m n f k h = ap (has_bit n) (sym (number_at k)) ∙ f (actor_at k) (ap (has_bit m) (number_at k) ∙ h)

same_only : (m n : ℕ) (a : Actor) → IsOnly m a → IsOnly n a → m ≡ n
same_only m n a f g = same_masks m n (sets_alike m n (λ b h. g b ∙ sym (f b) ∙ h)) (sets_alike n m (λ b h. f b ∙ sym (g b) ∙ h))

same_first : (c : Client) (s : State) (a b : Actor) → IsFirstLone c s a → IsFirstLone c s b → a ≡ b
same_first c s a b f g = same_actor a b (elim (cases_lt (number_of a) (number_of b)) [
  | inl less ↦ absurd (no_clash (is_lone c s a) f.lone (g.first a less))
  | inr ge ↦ elim (cases_lt (number_of b) (number_of a)) [
    | inl more ↦ absurd (no_clash (is_lone c s b) g.lone (f.first b more))
    | inr le ↦ omega (arith, ge, le)
  ]
])

same_least : (c : Client) (t : Table) (s : State) (a : Actor) (m n : ℕ) → IsLeast c t s a m → IsLeast c t s a n → m ≡ n
same_least c t s a m n f g = same_masks m n (f.least n g.own g.needed) (g.least m f.own f.needed)

no_tie : (c : Client) (t : Table) (s : State) (a b : Actor) (m n : ℕ) → IsLeast c t s a m → IsLeast c t s b n → GoesBefore m (number_of a) n (number_of b) → GoesBefore n (number_of b) m (number_of a) → m ≡ n
no_tie c t s a b m n f g (inl less) (inl more) = absurd (omega (arith, less, more))
no_tie c t s a b m n f g (inl less) (inr tie) = let same = tie.0 in absurd (omega (arith, less, same))
no_tie c t s a b m n f g (inr tie) (inl more) = let same = tie.0 in absurd (omega (arith, more, same))
no_tie c t s a b m n f g (inr tie) (inr eit) = same_least c t s a m n f (subst (λ x. IsLeast c t s x n) (same_actor b a (omega (arith, tie.1, eit.1))) g)

pub same_choice : (c : Client) (t : Table) (s : State) (m n : ℕ) → IsChoice c t s m → IsChoice c t s n → m ≡ n
same_choice c t s m n (Choosing.Alone a f p) (Choosing.Alone b g q) = same_only m n b (subst (IsOnly m) (same_first c s a b f g) p) q
same_choice c t s m n (Choosing.Alone a f p) (Choosing.Together b without g) = absurd (no_clash (is_lone c s a) f.lone (without a))
same_choice c t s m n (Choosing.Alone a f p) (Choosing.Nobody none z) = absurd (no_clash (is_enabled c s a) (lone_enabled c s a f.lone) (none a))
same_choice c t s m n (Choosing.Together a alone f) (Choosing.Alone b g q) = absurd (no_clash (is_lone c s b) g.lone (alone b))
same_choice c t s m n (Choosing.Together a alone f) (Choosing.Together b without g) = no_tie c t s a b m n f.least g.least (f.first b n g.enabled g.least) (g.first a m f.enabled f.least)
same_choice c t s m n (Choosing.Together a alone f) (Choosing.Nobody none z) = absurd (no_clash (is_enabled c s a) f.enabled (none a))
same_choice c t s m n (Choosing.Nobody none z) (Choosing.Alone b g q) = absurd (no_clash (is_enabled c s b) (lone_enabled c s b g.lone) (none b))
same_choice c t s m n (Choosing.Nobody none z) (Choosing.Together b without g) = absurd (no_clash (is_enabled c s b) g.enabled (none b))
same_choice c t s m n (Choosing.Nobody none z) (Choosing.Nobody none' z') = z ∙ sym z'

pub choices_are_determined : (c : Client) → ChoicesAreDetermined c
choices_are_determined c t s xs ys f g = f.all ∙ ap (choices_of c t s) (same_choice c t s f.set g.set f.is g.is) ∙ sym g.all

-- ---- all chosen actors have a step

-- the set of those below n that pass a test
abbrev passing : (Actor → Bool) → ℕ → ℕ
passing p zero = 0
passing p (suc n) = if p (actor_at n) then bit_or (passing p n) (2 ^ n) else passing p n

one_bit : (n k : ℕ) → has_bit (2 ^ n) k ≡ (k == n)
one_bit n k = elim (cases_eq k n) [
  | inl same ↦ ap (has_bit (2 ^ n)) same ∙ eq-eqb (bit_at (2 ^ n) n) 1 (bit_at-pow_same n) ∙ sym (eq-eqb k n same)
  | inr other ↦ ap (λ x. x == 1) (bit_at-pow_other n k other) ∙ sym (ne_eqb k n other)
]

passing_has : (p : Actor → Bool) (n k : ℕ) → k < n → p (actor_at k) ≡ true → has_bit (passing p n) k ≡ true
passing_has p zero k lt h = absurd (omega (arith, lt))
passing_has p (suc n) k lt h = go (p (actor_at n)) refl (λ less. passing_has p n k less h)
  where
    go : (b : Bool) → p (actor_at n) ≡ b → (k < n → has_bit (passing p n) k ≡ true) → has_bit (if b then bit_or (passing p n) (2 ^ n) else passing p n) k ≡ true
    go true e before = has_bit-or (passing p n) (2 ^ n) k ∙ (elim (cases_lt k n) [
      | inl less ↦ ap (λ x. x || has_bit (2 ^ n) k) (before less)
      | inr ge ↦ or_second (has_bit (passing p n) k) (one_bit n k ∙ eq-eqb k n (omega (arith, lt, ge)))
    ])
    go false e before = elim (cases_lt k n) [
      | inl less ↦ before less
      | inr ge ↦ let at : k ≡ n = omega (arith, lt, ge) in absurd (no_clash (p (actor_at n)) (ap (λ x. p (actor_at x)) (sym at) ∙ h) e)
    ]

passing_is : (p : Actor → Bool) (n k : ℕ) → has_bit (passing p n) k ≡ true → p (actor_at k) ≡ true
passing_is p zero k h = let z : has_bit 0 k ≡ false = ap (λ n. n == 1) (bit_at-zero k) in absurd (no_clash (has_bit 0 k) h z)
passing_is p (suc n) k h = go (p (actor_at n)) refl (passing_is p n k) h
  where
    go : (b : Bool) → p (actor_at n) ≡ b → (has_bit (passing p n) k ≡ true → p (actor_at k) ≡ true)
        → has_bit (if b then bit_or (passing p n) (2 ^ n) else passing p n) k ≡ true → p (actor_at k) ≡ true
    go true e before h = elim (or_cases (has_bit (passing p n) k) (has_bit (2 ^ n) k) (sym (has_bit-or (passing p n) (2 ^ n) k) ∙ h)) [
      | inl there ↦ before there
      | inr last ↦ ap (λ x. p (actor_at x)) (eqb-true k n (sym (one_bit n k) ∙ last)) ∙ e
    ]
    go false e before h = before h

wanted_enabled : (c : Client) (s : State) (kind : StepKind) (b : Actor) → is_wanted c s kind b ≡ true → is_enabled c s b ≡ true
wanted_enabled c s kind (Exec j) h = h
wanted_enabled c s kind (Drain j) h = (and_parts _ _ h).0

needs_enabled : (c : Client) (t : Table) (s : State) (a b : Actor) → needs c t s a b ≡ true → is_enabled c s b ≡ true
needs_enabled c t s a b h = go (kind_in c s a) h
  where
    go : (o : Option StepKind) → is_needed_if c t s o (thread_of a) b ≡ true → is_enabled c s b ≡ true
    go None e = absurd (no_clash false e refl)
    go (Some kind) e = wanted_enabled c s kind b (and_parts _ _ (and_parts _ _ e).1).1

small_number : (b : Actor) (n : ℕ) → thread_of b < n → number_of b < 2 * n
small_number (Exec i) n lt = omega (arith, lt)
small_number (Drain i) n lt = omega (arith, lt)

enabled_below : (c : Client) (s : State) (b : Actor) → is_enabled c s b ≡ true → number_of b < 2 * length s.threads
enabled_below c s b h = elim (cases_lt (thread_of b) (length s.threads)) [
  | inl less ↦ small_number b (length s.threads) less
  | inr ge ↦ absurd (no_clash (is_enabled c s b) h (nobody c s b ge))
]

abbrev all_enabled : Client → State → ℕ
all_enabled c s = passing (is_enabled c s) (2 * length s.threads)

enabled_in : (c : Client) (s : State) (b : Actor) → is_enabled c s b ≡ true → has (all_enabled c s) b ≡ true
enabled_in c s b h = passing_has (is_enabled c s) (2 * length s.threads) (number_of b) (enabled_below c s b h) (ap (is_enabled c s) (at_number b) ∙ h)

in_enabled : (c : Client) (s : State) (b : Actor) → has (all_enabled c s) b ≡ true → is_enabled c s b ≡ true
in_enabled c s b h = ap (is_enabled c s) (sym (at_number b)) ∙ passing_is (is_enabled c s) (2 * length s.threads) (number_of b) h

pub chosen_enabled : (c : Client) (t : Table) (s : State) (set : ℕ) → IsChoice c t s set → (b : Actor) → has set b ≡ true → is_enabled c s b ≡ true
chosen_enabled c t s set (Choosing.Alone a f only) b h =
    subst (λ x. is_enabled c s x ≡ true) ((actor_exact a b).0 (sym (only b) ∙ h)) (lone_enabled c s a f.lone)
chosen_enabled c t s set (Choosing.Together a alone f) b h =
    in_enabled c s b (f.least.least (all_enabled c s) (enabled_in c s a f.enabled) (λ x y there need. enabled_in c s y (needs_enabled c t s x y need)) (number_of b) h)
chosen_enabled c t s set (Choosing.Nobody none zero_set) b h =
    let z : has_bit 0 (number_of b) ≡ false = ap (λ n. n == 1) (bit_at-zero (number_of b)) in
    absurd (no_clash (has set b) h (ap (λ n. has n b) zero_set ∙ z))

-- ---- the list of chosen actors

before_all : (set n k : ℕ) (a : Actor) → slice_get (actors_below set n) k ≡ Some a → (has set a ≡ true) × (number_of a < n)
before_all set zero k a e = absurd (none_some e)
  where
    none_some : slice_get [] k ≡ Some a → ⊥
    none_some e = absurd (let lt = slice_get_within [] k a e in omega (arith, lt))
before_all set (suc n) k a e = go (has_bit set n) refl (before_all set n k a) e
  where
    wider : (has set a ≡ true) × (number_of a < n) → (has set a ≡ true) × (number_of a < suc n)
    wider (h, lt) = (h, omega (arith, lt))

    go : (b : Bool) → has_bit set n ≡ b → (slice_get (actors_below set n) k ≡ Some a → (has set a ≡ true) × (number_of a < n))
        → slice_get (if b then actors_below set n ++ actor_at n ∷ [] else actors_below set n) k ≡ Some a → (has set a ≡ true) × (number_of a < suc n)
    go false no_bit before e = wider (before e)
    go true bit before e = elim (got_either (actors_below set n) (actor_at n) k a e) [
      | inl there ↦ wider (before there.1)
      | inr last ↦
          let at : number_of a ≡ n = ap number_of (sym last.1) ∙ number_at n in
          (ap (has_bit set) at ∙ bit, omega (arith, at))
    ]

rising_more : (xs : List Actor) (y : Actor) → IsRising xs → ((k : ℕ) (a : Actor) → slice_get xs k ≡ Some a → number_of a < number_of y) → IsRising (xs ++ y ∷ [])
rising_more xs y rising below n a b first second = elim (got_either xs y (n + 1) b second) [
  | inl there ↦ elim (got_either xs y n a first) [
    | inl here ↦ rising n a b here.1 there.1
    | inr last ↦ let lt = there.0 in let at = last.0 in absurd (omega (arith, lt, at))
  ]
  | inr last ↦ elim (got_either xs y n a first) [
    | inl here ↦ subst (λ x. number_of a < number_of x) last.1 (below n a here.1)
    | inr also ↦ let at = last.0 in let too = also.0 in absurd (omega (arith, at, too))
  ]
]

rising_below : (set n : ℕ) → IsRising (actors_below set n)
rising_below set zero = λ k a b first second. absurd (let lt = slice_get_within [] k a first in omega (arith, lt))
rising_below set (suc n) = go (has_bit set n) (rising_below set n)
  where
    go : (b : Bool) → IsRising (actors_below set n) → IsRising (if b then actors_below set n ++ actor_at n ∷ [] else actors_below set n)
    go false before = before
    go true before = rising_more (actors_below set n) (actor_at n) before (λ k a e. let lt = (before_all set n k a e).1 in let at = number_at n in omega (arith, lt, at))

among_more : (xs : List Actor) (y b : Actor) → is_among (xs ++ y ∷ []) b ≡ (is_among xs b || is_actor y b)
among_more [] y b = or_none (is_actor y b)
  where
    or_none : (x : Bool) → (x || false) ≡ x
    or_none true = refl
    or_none false = refl
among_more (x ∷ xs) y b = ap (λ z. is_actor x b || z) (among_more xs y b) ∙ or_assoc (is_actor x b) (is_among xs b) (is_actor y b)
  where
    or_assoc : (x y z : Bool) → (x || (y || z)) ≡ ((x || y) || z)
    or_assoc true y z = refl
    or_assoc false y z = refl

among_below : (set n : ℕ) (b : Actor) → has set b ≡ true → number_of b < n → is_among (actors_below set n) b ≡ true
among_below set zero b h lt = absurd (omega (arith, lt))
among_below set (suc n) b h lt = go (has_bit set n) refl (among_below set n b h)
  where
    go : (x : Bool) → has_bit set n ≡ x → (number_of b < n → is_among (actors_below set n) b ≡ true)
        → is_among (if x then actors_below set n ++ actor_at n ∷ [] else actors_below set n) b ≡ true
    go true bit before = among_more (actors_below set n) (actor_at n) b ∙ (elim (cases_lt (number_of b) n) [
      | inl less ↦ ap (λ z. z || is_actor (actor_at n) b) (before less)
      | inr ge ↦
          let at : number_of b ≡ n = omega (arith, lt, ge) in
          let same : actor_at n ≡ b = ap actor_at (sym at) ∙ at_number b in
          or_second (is_among (actors_below set n) b) ((actor_exact (actor_at n) b).1 same)
    ])
    go false out before = elim (cases_lt (number_of b) n) [
      | inl less ↦ before less
      | inr ge ↦ let at : number_of b ≡ n = omega (arith, lt, ge) in absurd (no_clash (has_bit set n) (ap (has_bit set) (sym at) ∙ h) out)
    ]

among_some : (xs : List Actor) (b : Actor) → is_among xs b ≡ true → 0 < length xs
among_some [] b h = absurd (no_clash false h refl)
among_some (x ∷ xs) b h = omega arith

-- ---- a reason for each other thread

module _ (c : Client) (t : Table) (s : State) (chosen : List Actor) (kind : StepKind) (j : ℕ) where
  abbrev is_so : Reason → Bool
  is_so reason = is_reason c t s chosen kind j reason

  -- where a reason holds, one that holds is given
  reason_so : (reason : Reason) → is_so reason ≡ true → is_so (reason_for c t s chosen kind j) ≡ true
  reason_so reason h = go (is_so reasons.Return) (is_so reasons.Own) (is_so reasons.Far) (is_so reasons.Inside) (is_so reasons.Buffer) refl refl refl refl refl
    where
      go : (f a b d e : Bool) → is_so reasons.Return ≡ f → is_so reasons.Own ≡ a → is_so reasons.Far ≡ b → is_so reasons.Inside ≡ d → is_so reasons.Buffer ≡ e
          → is_so (if f then reasons.Return else if a then reasons.Own else if b then reasons.Far else if d then reasons.Inside else if e then reasons.Buffer else reasons.NoReturn) ≡ true
      go true a b d e v p q r u = v
      go false true b d e v p q r u = p
      go false false true d e v p q r u = q
      go false false false true e v p q r u = r
      go false false false false true v p q r u = u
      go false false false false false v p q r u = last reason h
        where
          last : (reason : Reason) → is_so reason ≡ true → is_so reasons.NoReturn ≡ true
          last reasons.Own h = absurd (no_clash (is_so reasons.Own) h p)
          last reasons.Far h = absurd (no_clash (is_so reasons.Far) h q)
          last reasons.Inside h = absurd (no_clash (is_so reasons.Inside) h r)
          last reasons.Buffer h = absurd (no_clash (is_so reasons.Buffer) h u)
          last reasons.Return h = absurd (no_clash (is_so reasons.Return) h v)
          last reasons.NoReturn h = h

-- what needs nobody has a reason
apart_so : (c : Client) (t : Table) (s : State) (chosen : List Actor) (kind : StepKind) (j : ℕ) → is_apart c t s kind j ≡ true → (reason : Reason) × (is_reason c t s chosen kind j reason ≡ true)
apart_so c t s chosen kinds.Local j h = (reasons.Own, refl)
apart_so c t s chosen kinds.Return j h = (reasons.Return, refl)
apart_so c t s chosen kinds.Call j h = (reasons.NoReturn, h)
apart_so c t s chosen (kinds.Load p) j h = (reasons.Far, h)
apart_so c t s chosen (kinds.Drain p) j h = (reasons.Far, h)
apart_so c t s chosen (kinds.Locked p) j h = (reasons.Far, h)

not_so : (x : Bool) → x ≡ false → not x ≡ true
not_so true e = absurd (no_clash true refl e)
not_so false e = refl

-- where all that is wanted of thread j is chosen, there is a reason too
wanted_so : (c : Client) (t : Table) (s : State) (chosen : List Actor) (kind : StepKind) (j : ℕ) → ((b : Actor) → thread_of b ≡ j → is_wanted c s kind b ≡ true → is_among chosen b ≡ true)
    → (reason : Reason) × (is_reason c t s chosen kind j reason ≡ true)
wanted_so c t s chosen kind j all = go (is_served c s kind j) refl
  where
    held : (b : Actor) → thread_of b ≡ j → (is_enabled c s b ≡ true → is_wanted c s kind b ≡ true) → is_held c s chosen b ≡ true
    held b at wants = elim (either_bool (is_enabled c s b)) [
      | inl on ↦ ap (λ x. x || is_none (kind_in c s b)) (all b at (wants on))
      | inr off ↦ or_second (is_among chosen b) (ap is_none (none_of_false (kind_in c s b) off))
    ]

    go : (b : Bool) → is_served c s kind j ≡ b → (reason : Reason) × (is_reason c t s chosen kind j reason ≡ true)
    go true e = let (on, clear) = and_parts _ _ e in (reasons.Buffer, and_from _ _ (all (Exec j) refl on) clear)
    go false e = (reasons.Inside, and_from _ _ (held (Exec j) refl (λ on. on)) (held (Drain j) refl (λ on. and_from _ _ on (not_so (is_served c s kind j) e))))

-- each chosen actor with a step of this kind has a reason for each other thread
choice_so : (c : Client) (t : Table) (s : State) (set : ℕ) (a : Actor) (kind : StepKind) (j : ℕ) → IsChoice c t s set → has set a ≡ true → kind_in c s a ≡ Some kind → j ≢ thread_of a
    → (reason : Reason) × (is_reason c t s (actors_below set (2 * length s.threads)) kind j reason ≡ true)
choice_so c t s set a kind j choice there is apart = by choice
  where
    chosen : List Actor
    chosen = actors_below set (2 * length s.threads)

    lone_so : (k : StepKind) → (is_local k || is_return k) ≡ true → (reason : Reason) × (is_reason c t s (actors_below set (2 * length s.threads)) k j reason ≡ true)
    lone_so kinds.Local h = (reasons.Own, refl)
    lone_so kinds.Return h = (reasons.Return, refl)
    lone_so kinds.Call h = absurd (no_clash false h refl)
    lone_so (kinds.Load p) h = absurd (no_clash false h refl)
    lone_so (kinds.Drain p) h = absurd (no_clash false h refl)
    lone_so (kinds.Locked p) h = absurd (no_clash false h refl)

    together : ((x y : Actor) → has set x ≡ true → needs c t s x y ≡ true → has set y ≡ true) → (reason : Reason) × (is_reason c t s (actors_below set (2 * length s.threads)) kind j reason ≡ true)
    together needed = elim (either_bool (is_apart c t s kind j)) [
      | inl none ↦ apart_so c t s (actors_below set (2 * length s.threads)) kind j none
      | inr some ↦ wanted_so c t s (actors_below set (2 * length s.threads)) kind j (λ b at wants.
          let other : (thread_of b == thread_of a) ≡ false = ne_eqb (thread_of b) (thread_of a) (λ e. apart (sym at ∙ e)) in
          let close : is_apart c t s kind (thread_of b) ≡ false = ap (is_apart c t s kind) at ∙ some in
          let need : is_needed c t s kind (thread_of a) b ≡ true = and_from _ _ (not_so (thread_of b == thread_of a) other) (and_from _ _ (not_so (is_apart c t s kind (thread_of b)) close) wants) in
          let has_it = needed a b there (ap (λ o. is_needed_if c t s o (thread_of a) b) is ∙ need) in
          among_below set (2 * length s.threads) b has_it (enabled_below c s b (wanted_enabled c s kind b wants)))
    ]

    by : IsChoice c t s set → (reason : Reason) × (is_reason c t s (actors_below set (2 * length s.threads)) kind j reason ≡ true)
    by (Choosing.Alone a' f only) =
        let same : a' ≡ a = (actor_exact a' a).0 (sym (only a) ∙ there) in
        lone_so kind (ap is_lone_if (sym is) ∙ ap (is_lone c s) (sym same) ∙ f.lone)
    by (Choosing.Together a' alone f) = together f.least.needed
    by (Choosing.Nobody none zero_set) = absurd (no_clash (has set a) there (ap (λ n. has n a) zero_set ∙ ap (λ n. n == 1) (bit_at-zero (number_of a))))

-- ---- the list of reasons

position_before : (i j : ℕ) → j < i → position_of i j ≡ j
position_before i zero lt = refl
position_before zero (suc j) lt = absurd (omega (arith, lt))
position_before (suc i) (suc j) lt = ap suc (position_before i j (omega (arith, lt)))

position_after : (i j : ℕ) → i < j → position_of i j + 1 ≡ j
position_after i zero lt = absurd (omega (arith, lt))
position_after zero (suc j) lt = omega arith
position_after (suc i) (suc j) lt = let e = position_after i j (omega (arith, lt)) in omega (arith, e)

record AreListed (c : Client) (t : Table) (s : State) (chosen : List Actor) (kind : StepKind) (i n : ℕ) (given : List Reason) : Type 0 where
  before : n ≤ i → length given ≡ n
  after : i < n → length given + 1 ≡ n
  each : (j : ℕ) → j < n → j ≢ i → slice_get given (position_of i j) ≡ Some (reason_for c t s chosen kind j)

one_more : (c : Client) (t : Table) (s : State) (chosen : List Actor) (kind : StepKind) (i n : ℕ) (given : List Reason) → AreListed c t s chosen kind i n given → n ≢ i
    → AreListed c t s chosen kind i (suc n) (given ++ reason_for c t s chosen kind n ∷ [])
one_more c t s chosen kind i n given known apart =
    let y = reason_for c t s chosen kind n in
    let long = length-append given (y ∷ []) in
    record {
      before = λ le. let e = known.before (omega (arith, le)) in omega (arith, e, long);
      after = λ lt. elim (cases_lt i n) [
        | inl less ↦ let e = known.after less in omega (arith, e, long)
        | inr ge ↦ absurd (apart (omega (arith, lt, ge)))
      ];
      each = λ j lt other. elim (cases_lt j n) [
        | inl less ↦ let e = known.each j less other in got_before given y (position_of i j) (slice_get_within given (position_of i j) _ e) ∙ e
        | inr ge ↦
            let at : n ≡ j = omega (arith, lt, ge) in
            let place : position_of i n ≡ length given = elim (cases_lt i n) [
              | inl less ↦ let e = known.after less in let f = position_after i n less in omega (arith, e, f)
              | inr le ↦ elim (cases_lt n i) [
                | inl more ↦ position_before i n more ∙ sym (known.before le)
                | inr same ↦ absurd (apart (omega (arith, le, same)))
              ]
            ] in
            subst (λ x. slice_get (given ++ y ∷ []) (position_of i x) ≡ Some (reason_for c t s chosen kind x)) at (got_last given y (position_of i n) place)
      ];
    }

none_more : (c : Client) (t : Table) (s : State) (chosen : List Actor) (kind : StepKind) (i n : ℕ) (given : List Reason) → AreListed c t s chosen kind i n given → n ≡ i → AreListed c t s chosen kind i (suc n) given
none_more c t s chosen kind i n given known at = record {
  before = λ le. absurd (omega (arith, le, at));
  after = λ lt. let e = known.before (omega (arith, at)) in omega (arith, e);
  each = λ j lt other. known.each j (elim (cases_lt j n) [
    | inl less ↦ less
    | inr ge ↦ absurd (other (omega (arith, lt, ge, at)))
  ]) other;
}

reasons_listed : (c : Client) (t : Table) (s : State) (chosen : List Actor) (kind : StepKind) (i n : ℕ) → AreListed c t s chosen kind i n (reasons_below c t s chosen kind i n)
reasons_listed c t s chosen kind i zero = record {
  before = λ le. refl;
  after = λ lt. absurd (omega (arith, lt));
  each = λ j lt other. absurd (omega (arith, lt));
}
reasons_listed c t s chosen kind i (suc n) = go (n == i) refl (reasons_listed c t s chosen kind i n)
  where
    go : (b : Bool) → (n == i) ≡ b → AreListed c t s chosen kind i n (reasons_below c t s chosen kind i n)
        → AreListed c t s chosen kind i (suc n) (if b then reasons_below c t s chosen kind i n else reasons_below c t s chosen kind i n ++ reason_for c t s chosen kind n ∷ [])
    go true e known = none_more c t s chosen kind i n (reasons_below c t s chosen kind i n) known (eqb-true n i e)
    go false e known = one_more c t s chosen kind i n (reasons_below c t s chosen kind i n) known (λ at. no_clash (n == i) (eq-eqb n i at) e)

-- ---- what is chosen is valid

actors_are : (c : Client) (t : Table) (s : State) (chosen xs : List Actor) → actors_of (map (choice_of c t s chosen) xs) ≡ xs
actors_are c t s chosen [] = refl
actors_are c t s chosen (x ∷ xs) = ap (λ (l : List Actor). x ∷ l) (actors_are c t s chosen xs)

got_mapped : {X Y : Type 0} (f : X → Y) (xs : List X) (n : ℕ) (y : Y) → slice_get (map f xs) n ≡ Some y → (x : X) × (slice_get xs n ≡ Some x) × (f x ≡ y)
got_mapped f [] n y e = absurd (let lt = slice_get_within [] n y e in omega (arith, lt))
got_mapped f (x ∷ xs) zero y e = (x, refl, same_Some (f x) y e)
got_mapped f (x ∷ xs) (suc n) y e = got_mapped f xs n y e

own_actor : (a : Actor) → is_actor a a ≡ true
own_actor a = (actor_exact a a).1 refl

chosen_some : (c : Client) (t : Table) (s : State) (set : ℕ) (a : Actor) → IsChoice c t s set → is_enabled c s a ≡ true → 0 < length (actors_below set (2 * length s.threads))
chosen_some c t s set a (Choosing.Alone b f only) on =
    among_some (actors_below set (2 * length s.threads)) b (among_below set (2 * length s.threads) b (only b ∙ own_actor b) (enabled_below c s b (lone_enabled c s b f.lone)))
chosen_some c t s set a (Choosing.Together b alone f) on =
    among_some (actors_below set (2 * length s.threads)) b (among_below set (2 * length s.threads) b f.least.own (enabled_below c s b f.enabled))
chosen_some c t s set a (Choosing.Nobody none zero_set) on = absurd (no_clash (is_enabled c s a) on (none a))

have_reasons : (c : Client) (t : Table) (s : State) (set : ℕ) (a : Actor) → IsChoice c t s set → has set a ≡ true
    → AreReasons c t s (actors_below set (2 * length s.threads)) a (reasons_if c t s (actors_below set (2 * length s.threads)) (thread_of a) (kind_in c s a))
have_reasons c t s set a choice there =
    let (kind, is) = some_of_true (kind_in c s a) (chosen_enabled c t s set choice a there) in
    subst (λ o. AreReasons c t s (actors_below set (2 * length s.threads)) a (reasons_if c t s (actors_below set (2 * length s.threads)) (thread_of a) o)) (sym is) (with_kind kind is)
  where
    inside : thread_of a < length s.threads
    inside = elim (cases_lt (thread_of a) (length s.threads)) [
      | inl less ↦ less
      | inr ge ↦ absurd (no_clash (is_enabled c s a) (chosen_enabled c t s set choice a there) (nobody c s a ge))
    ]

    with_kind : (kind : StepKind) → kind_in c s a ≡ Some kind
        → AreReasons c t s (actors_below set (2 * length s.threads)) a (reasons_below c t s (actors_below set (2 * length s.threads)) kind (thread_of a) (length s.threads))
    with_kind kind is =
        let chosen = actors_below set (2 * length s.threads) in
        let known = reasons_listed c t s chosen kind (thread_of a) (length s.threads) in
        record {
          count = known.after inside;
          each = λ j reason lt apart at.
              let (so, h) = choice_so c t s set a kind j choice there is apart in
              let same : reason_for c t s chosen kind j ≡ reason = same_Some _ reason (sym (known.each j lt apart) ∙ at) in
              subst (λ o. is_reason_if c t s chosen o j reason ≡ true) (sym is) (ap (is_reason c t s chosen kind j) (sym same) ∙ reason_so c t s chosen kind j so h);
        }

pub chosen_are_valid : (c : Client) → ChosenAreValid c
chosen_are_valid c t s choices w f = let chosen = actors_below f.set (2 * length s.threads) in subst (AreValid c t s) (sym f.all) (record {
  rising = subst IsRising (sym (actors_are c t s chosen chosen)) (rising_below f.set (2 * length s.threads));
  enabled = λ n x at. let (a, there, is) = got_mapped (choice_of c t s chosen) chosen n x at in
      subst (λ y. is_enabled c s y ≡ true) (ap (λ (y : Choice). y.actor) is) (chosen_enabled c t s f.set f.is a (before_all f.set (2 * length s.threads) n a there).0);
  reasons = λ n x at. let (a, there, is) = got_mapped (choice_of c t s chosen) chosen n x at in
      subst (λ (y : Choice). AreReasons c t s (actors_of (choices_of c t s f.set)) y.actor y.reasons) is
      (subst (λ l. AreReasons c t s l a (reasons_if c t s chosen (thread_of a) (kind_in c s a))) (sym (actors_are c t s chosen chosen))
      (have_reasons c t s f.set a f.is (before_all f.set (2 * length s.threads) n a there).0));
  some = λ a on. let long = length-map chosen (choice_of c t s chosen) in let more = chosen_some c t s f.set a f.is on in omega (arith, long, more);
})

-- ---- what is valid is persistent

had : (choices : List Choice) (a : Actor) → Has (actors_of choices) a → (n : ℕ) × (x : Choice) × (slice_get choices n ≡ Some x) × (x.actor ≡ a)
had [] a h = absurd h
had (x ∷ rest) a (inl e) = (0, x, refl, e)
had (x ∷ rest) a (inr h) = let (n, y, at, is) = had rest a h in (suc n, y, at, is)

step_there : {X Y : Type 0} (f : steps.Move X → Y) (k : steps.Move X → StepKind) (o : Option (steps.Move X)) → is_some (option_map k o) ≡ true → is_some (option_map f o) ≡ true
step_there f k None h = absurd (no_clash false h refl)
step_there f k (Some m) h = refl

position_within : (i j n : ℕ) → j < n → i < n → j ≢ i → position_of i j + 1 < n
position_within i j n lt own apart = elim (cases_lt j i) [
  | inl less ↦ let e = position_before i j less in omega (arith, e, less, own)
  | inr ge ↦ elim (cases_lt i j) [
    | inl more ↦ let e = position_after i j more in omega (arith, e, lt)
    | inr le ↦ absurd (apart (omega (arith, ge, le)))
  ]
]

pub valid_choices_are_persistent : (c : Client) → ValidChoicesArePersistent c
valid_choices_are_persistent c t s choices closed w within valid = true_reasons_are_persistent c t s (actors_of choices) closed w within each
  where
    one : (n : ℕ) (x : Choice) → slice_get choices n ≡ Some x → IsValid c t s (actors_of choices) x.actor
    one n x at =
        let on = valid.enabled n x at in
        let given = valid.reasons n x at in
        record {
          enabled = step_there (steps.perform (state_of s) (steps.thread_of (actor_of x.actor))) kind_of_move (steps.move (program_of c) (state_of s) (actor_of x.actor)) on;
          reasons = λ j lt apart.
              let inside : thread_of x.actor < length s.threads = elim (cases_lt (thread_of x.actor) (length s.threads)) [
                | inl less ↦ less
                | inr ge ↦ absurd (no_clash (is_enabled c s x.actor) on (nobody c s x.actor ge))
              ] in
              let place = position_of (thread_of x.actor) j in
              let within : place < length x.reasons = (let e = position_within (thread_of x.actor) j (length s.threads) lt inside apart in let n = given.count in omega (arith, e, n)) in
              let there = slice_get-get_or x.reasons place reasons.Own within in
              (get_or x.reasons place reasons.Own, given.each j (get_or x.reasons place reasons.Own) lt apart there);
        }

    each : (a : Actor) → Has (actors_of choices) a → IsValid c t s (actors_of choices) a
    each a h = let (n, x, at, is) = had choices a h in subst (IsValid c t s (actors_of choices)) is (one n x at)
