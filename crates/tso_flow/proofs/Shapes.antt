-- What the first fault of an instruction says of it.
use Rattle.std.proofs.Common.{◌≡◌, ℕ, ◌≤◌, Bool, true, false, cond, List, length, refl, sym, subst, arith, lit≤}
use Rattle.std.specs.Prelude.{Option, Some, None, IsTrue, ◌&&◌, ◌||◌}
use Rattle.std.proofs.lemmas.Bool.Decides.{nat_tests}
use Rattle.std.proofs.lemmas.Bool.{or_left, or_right, and_parts, and_from}
use Rattle.tso_line.specs.declared.instruction.Instruction.{Instruction}
use Rattle.tso_prog.specs.declared.fault.Code.{Code}
use Rattle.tso_prog.specs.declared.fault.Code.TheVariants.{E01, E02, E03, E04, E05, E06, E07, E08, E09, E10, E11, E12, E13, E14}
use Rattle.tso_flow.specs.Paths.{next_of, target_of, is_at, goes_on, Reaches}
use Rattle.tso_prog.specs.Codes.{code_number}
use Rattle.tso_flow.specs.Faults.{is_back_without_bound, is_forward_with_bound, GoesPastEnd, by_code}
use Rattle.tso_flow.specs.First.{is_past, goes_past, shape_code, ShapeAt}

-- ---- codes

-- a code of control flow, with its statement
pub data Case (A B C D : Type 0) (code : Code) : Type 0 where
  past : code ≡ E11 → A → Case A B C D code
  back : code ≡ E12 → B → Case A B C D code
  forward : code ≡ E13 → C → Case A B C D code
  unwritten : code ≡ E14 → D → Case A B C D code

pub cases : (A B C D : Type 0) (code : Code) → by_code A B C D code → Case A B C D code
cases A B C D E01 h = absurd h
cases A B C D E02 h = absurd h
cases A B C D E03 h = absurd h
cases A B C D E04 h = absurd h
cases A B C D E05 h = absurd h
cases A B C D E06 h = absurd h
cases A B C D E07 h = absurd h
cases A B C D E08 h = absurd h
cases A B C D E09 h = absurd h
cases A B C D E10 h = absurd h
cases A B C D E11 h = past refl h
cases A B C D E12 h = back refl h
cases A B C D E13 h = forward refl h
cases A B C D E14 h = unwritten refl h

-- the lowest code of those that have a property, if any has
abbrev pub IsLowest : (Code → Type 0) → Option Code → Type 0
IsLowest Has None = (code : Code) → Has code → ⊥
IsLowest Has (Some lowest) = Has lowest × ((code : Code) → Has code → code_number lowest ≤ code_number code)

number_from : (n : ℕ) (code other : Code) → code ≡ other → n ≤ code_number other → n ≤ code_number code
number_from n code other e le = subst (λ (c : Code). n ≤ code_number c) (sym e) le

lowest : (a b d : Bool) (A : Type 0) → (a ≡ true → A) → (A → a ≡ true) → IsLowest (λ code. by_code A (IsTrue b) (IsTrue d) ⊥ code) (cond a (Some E11) (cond b (Some E12) (cond d (Some E13) None)))
lowest true b d A to from = (
  to refl,
  λ code h. elim (cases A (IsTrue b) (IsTrue d) ⊥ code h) [
    | past e x ↦ number_from 11 code E11 e (lit≤ tt)
    | back e x ↦ number_from 11 code E12 e (lit≤ tt)
    | forward e x ↦ number_from 11 code E13 e (lit≤ tt)
    | unwritten e x ↦ absurd x
  ],
)
lowest false true d A to from = (
  refl,
  λ code h. elim (cases A (IsTrue true) (IsTrue d) ⊥ code h) [
    | past e x ↦ absurd (cc (from x))
    | back e x ↦ number_from 12 code E12 e (lit≤ tt)
    | forward e x ↦ number_from 12 code E13 e (lit≤ tt)
    | unwritten e x ↦ absurd x
  ],
)
lowest false false true A to from = (
  refl,
  λ code h. elim (cases A (IsTrue false) (IsTrue true) ⊥ code h) [
    | past e x ↦ absurd (cc (from x))
    | back e x ↦ absurd (cc x)
    | forward e x ↦ number_from 13 code E13 e (lit≤ tt)
    | unwritten e x ↦ absurd x
  ],
)
lowest false false false A to from = λ code h. elim (cases A (IsTrue false) (IsTrue false) ⊥ code h) [
  | past e x ↦ cc (from x)
  | back e x ↦ cc x
  | forward e x ↦ cc x
  | unwritten e x ↦ x
]

-- ---- positions past the end

past_there : (n : ℕ) (o : Option ℕ) → is_past n o ≡ true → (j : ℕ) × (is_at o j ≡ true) × (n ≤ j)
past_there n None e = absurd cc
past_there n (Some t) e = (t, grind (arith, nat_tests), grind (arith, nat_tests))

past_from : (n : ℕ) (o : Option ℕ) (j : ℕ) → is_at o j ≡ true → n ≤ j → is_past n o ≡ true
past_from n None j e le = absurd cc
past_from n (Some t) j e le = grind (arith, nat_tests)

past_to : (n i : ℕ) (step : Instruction ℕ ℕ) → goes_past n i step ≡ true → (j : ℕ) × IsTrue (goes_on step i j) × (n ≤ j)
unfolding goes_past goes_on
past_to n i step e = at (is_past n (next_of step i)) refl
  where
    at : (b : Bool) → is_past n (next_of step i) ≡ b → (j : ℕ) × IsTrue (is_at (next_of step i) j || is_at (target_of step) j) × (n ≤ j)
    at true f = let p = past_there n (next_of step i) f in (p.0, or_left (is_at (next_of step i) p.0) (is_at (target_of step) p.0) p.1, p.2)
    at false f = let p = past_there n (target_of step) (subst (λ (b : Bool). (b || is_past n (target_of step)) ≡ true) f e) in (p.0, or_right (is_at (next_of step i) p.0) (is_at (target_of step) p.0) p.1, p.2)

past_of : (n i : ℕ) (step : Instruction ℕ ℕ) (j : ℕ) → IsTrue (goes_on step i j) → n ≤ j → goes_past n i step ≡ true
unfolding goes_past goes_on
past_of n i step j e le = at (is_at (next_of step i) j) refl
  where
    at : (b : Bool) → is_at (next_of step i) j ≡ b → (is_past n (next_of step i) || is_past n (target_of step)) ≡ true
    at true f = or_left (is_past n (next_of step i)) (is_past n (target_of step)) (past_from n (next_of step i) j f le)
    at false f = or_right (is_past n (next_of step i)) (is_past n (target_of step)) (past_from n (target_of step) j (subst (λ (b : Bool). (b || is_at (target_of step) j) ≡ true) f e) le)

-- ---- one instruction

pub shape_is : (steps : List (Instruction ℕ ℕ)) (i : ℕ) (step : Instruction ℕ ℕ) (r : Bool) → (r ≡ true → Reaches None steps i) → (Reaches None steps i → r ≡ true) → IsLowest (ShapeAt steps i step) (shape_code (length steps) i step r)
unfolding shape_code
shape_is steps i step r to from =
    let n : ℕ = length steps in
    lowest (r && goes_past n i step) (is_back_without_bound i step) (is_forward_with_bound i step) (GoesPastEnd steps i step)
    (λ e. let p = and_parts r (goes_past n i step) e in let q = past_to n i step p.1 in (to p.0, q))
    (λ g. and_from r (goes_past n i step) (from g.0) (past_of n i step g.1.0 g.1.1 g.1.2))

-- the same where the code is known
pub shape_known : (steps : List (Instruction ℕ ℕ)) (i : ℕ) (step : Instruction ℕ ℕ) (r : Bool) (o : Option Code) → (r ≡ true → Reaches None steps i) → (Reaches None steps i → r ≡ true) → o ≡ shape_code (length steps) i step r → IsLowest (ShapeAt steps i step) o
shape_known steps i step r o to from e = subst (λ (x : Option Code). IsLowest (ShapeAt steps i step) x) (sym e) (shape_is steps i step r to from)
