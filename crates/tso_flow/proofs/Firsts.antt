-- The first of several faults.
use Rattle.std.proofs.Common.{◌≡◌, ℕ, ◌+◌, ◌<◌, ◌≤◌, ◌⊎◌, inl, inr, Bool, true, false, cond, List, refl, subst, arith, below_more}
use Rattle.std.specs.Prelude.{Option, Some, None, slice_get, ◌&&◌, ◌||◌, ◌==◌, nat_lt, nat_le}
use Rattle.std.proofs.lemmas.Bool.Decides.{nat_tests}
use Rattle.tso_line.specs.declared.instruction.Instruction.{Instruction}
use Rattle.tso_prog.specs.declared.fault.Code.{Code}
use Rattle.tso_prog.specs.declared.fault.Fault.{Fault}
use Rattle.tso_prog.specs.Codes.{code_number}
use Rattle.tso_flow.specs.Faults.{is_no_later, IsFirst}
use Rattle.tso_flow.specs.First.{earlier, Below}

-- ---- the order

abbrev before : ℕ → ℕ → ℕ → ℕ → Bool
before a m b n = nat_lt a b || ((a == b) && nat_le m n)

before_trans : (a m b n c k : ℕ) → before a m b n ≡ true → before b n c k ≡ true → before a m c k ≡ true
before_trans a m b n c k e f = grind (arith, nat_tests)

before_total : (a m b n : ℕ) → before a m b n ≡ false → before b n a m ≡ true
before_total a m b n e = grind (arith, nat_tests)

before_same : (a m n : ℕ) → m ≤ n → before a m a n ≡ true
before_same a m n le = grind (arith, nat_tests)

trans : (f g h : Fault) → is_no_later f g ≡ true → is_no_later g h ≡ true → is_no_later f h ≡ true
unfolding is_no_later
trans f g h p q = before_trans f.line (code_number f.code) g.line (code_number g.code) h.line (code_number h.code) p q

total : (f g : Fault) → is_no_later f g ≡ false → is_no_later g f ≡ true
unfolding is_no_later
total f g p = before_total f.line (code_number f.code) g.line (code_number g.code) p

same_line : (f g : Fault) → f.line ≡ g.line → code_number f.code ≤ code_number g.code → is_no_later f g ≡ true
unfolding is_no_later
same_line f g e le = subst (λ (n : ℕ). before f.line (code_number f.code) n (code_number g.code) ≡ true) e (before_same f.line (code_number f.code) (code_number g.code) le)

-- ---- the first of two sorts

module _ (P Q : Fault → Type 0) where
  pub first_changed : (o : Option Fault) → ((f : Fault) → P f → Q f) → ((f : Fault) → Q f → P f) → IsFirst P o → IsFirst Q o
  first_changed None to from p = λ f q. p f (from f q)
  first_changed (Some x) to from p = (to x p.0, λ f q. p.1 f (from f q))

  pub first_of_two : (a b : Option Fault) → IsFirst P a → IsFirst Q b → IsFirst (λ f. P f ⊎ Q f) (earlier a b)
  first_of_two None None p q = λ f s. elim s [ inl u ↦ p f u | inr v ↦ q f v ]
  first_of_two None (Some y) p q = (inr q.0, λ f s. elim s [ inl u ↦ absurd (p f u) | inr v ↦ q.1 f v ])
  first_of_two (Some x) None p q = (inl p.0, λ f s. elim s [ inl u ↦ p.1 f u | inr v ↦ absurd (q f v) ])
  first_of_two (Some x) (Some y) p q = at (is_no_later x y) refl
    where
      at : (b : Bool) → is_no_later x y ≡ b → IsFirst (λ f. P f ⊎ Q f) (cond b (Some x) (Some y))
      at true e = (inl p.0, λ f s. elim s [ inl u ↦ p.1 f u | inr v ↦ trans x y f e (q.1 f v) ])
      at false e = (inr q.0, λ f s. elim s [ inl u ↦ trans y x f (total x y e) (p.1 f u) | inr v ↦ q.1 f v ])

-- ---- one instruction more

module _ (At : ℕ → Instruction ℕ ℕ → Code → Type 0) (steps : List (Instruction ℕ ℕ)) (lines : List ℕ) where
  pub first_of_none : IsFirst (Below At steps lines 0) None
  first_of_none f s = let h : s.0 < 0 = s.2 in absurd (omega arith)

  wider : (i : ℕ) (f : Fault) → Below At steps lines i f → Below At steps lines (i + 1) f
  wider i f s = let h : s.0 < i = s.2 in (s.0, s.1, omega arith, s.3, s.4, s.5)

  Here : ℕ → Fault → Type 0
  Here i f = (step : Instruction ℕ ℕ) × (slice_get lines i ≡ Some f.line) × (slice_get steps i ≡ Some step) × At i step f.code

  last : (i : ℕ) (f : Fault) → Here i f → Below At steps lines (i + 1) f
  unfolding Here
  last i f h = (i, h.0, omega arith, h.1, h.2, h.3)

  parts : (i : ℕ) (f : Fault) → Below At steps lines (i + 1) f → Below At steps lines i f ⊎ Here i f
  unfolding Here
  parts i f s =
      let P : ℕ → Type 0 = λ (k : ℕ). (slice_get lines k ≡ Some f.line) → (slice_get steps k ≡ Some s.1) → At k s.1 f.code → Below At steps lines i f ⊎ Here i f in
      below_more P i (λ k lt a b d. inl (k, s.1, lt, a, b, d)) (λ a b d. inr (s.1, a, b, d)) s.0 s.2 s.3 s.4 s.5

  pub first_without : (i : ℕ) (step : Instruction ℕ ℕ) (o : Option Fault) → slice_get steps i ≡ Some step → ((code : Code) → At i step code → ⊥) → IsFirst (Below At steps lines i) o → IsFirst (Below At steps lines (i + 1)) o
  unfolding Here
  first_without i step o is none p = first_changed (Below At steps lines i) (Below At steps lines (i + 1)) o (wider i)
      (λ f s. elim (parts i f s) [ inl u ↦ u | inr h ↦ absurd (none f.code (let e : h.0 ≡ step = cc (is, h.2) in subst (λ (t : Instruction ℕ ℕ). At i t f.code) e h.3)) ]) p

  pub first_with : (i : ℕ) (step : Instruction ℕ ℕ) (line : ℕ) (code : Code) (o : Option Fault) → slice_get steps i ≡ Some step → slice_get lines i ≡ Some line → At i step code → ((other : Code) → At i step other → code_number code ≤ code_number other)
      → IsFirst (Below At steps lines i) o → IsFirst (Below At steps lines (i + 1)) (earlier o (Some (record { code = code; line = line })))
  unfolding Here
  first_with i step line code o is at here lowest p =
      let fault : Fault = record { code = code; line = line } in
      first_changed (λ f. Below At steps lines i f ⊎ Here i f) (Below At steps lines (i + 1)) (earlier o (Some fault))
      (λ f s. elim s [ inl u ↦ wider i f u | inr h ↦ last i f h ]) (parts i)
      (first_of_two (Below At steps lines i) (Here i) o (Some fault) p
      ((step, at, is, here), λ f h. same_line fault f (let e : line ≡ f.line = cc (at, h.1) in e) (lowest f.code (let e : h.0 ≡ step = cc (is, h.2) in subst (λ (t : Instruction ℕ ℕ). At i t f.code) e h.3))))
