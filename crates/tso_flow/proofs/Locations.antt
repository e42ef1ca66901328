-- The registers and flags are looked for one after the other, and the procedures too.
use Rattle.std.proofs.Common.{◌≡◌, ℕ, ◌+◌, ◌<◌, ◌⊎◌, inl, inr, Bool, true, false, not, List, length, refl, sym, subst, arith, below_more, lit<}
use Rattle.std.specs.Prelude.{Option, Some, None, slice_get, IsTrue}
use Rattle.std.proofs.lemmas.Option.{slice_get_within}
use Rattle.std.proofs.lemmas.Bool.{not-true, not_from_false}
use Rattle.tso_line.specs.declared.instruction.Instruction.{Instruction}
use Rattle.tso_line.specs.declared.instruction.Register.TheVariants.{Rax, Rbx, Rcx, Rdx, Rsi, Rdi, Rbp, R8, R9, R10, R11, R12, R13, R14, R15}
use Rattle.tso_prog.specs.declared.client.Client.{Client}
use Rattle.tso_prog.specs.declared.client.Procedure.{Procedure}
use Rattle.tso_prog.specs.declared.fault.Code.{Code}
use Rattle.tso_prog.specs.declared.fault.Fault.{Fault}
use Rattle.tso_flow.specs.declared.location.TheConstants.{LOCATIONS}
use Rattle.tso_flow.specs.declared.location.Flag.TheVariants.{Zero, Carry, Sign, Overflow}
use Rattle.tso_flow.specs.declared.location.Location.{Location}
use Rattle.tso_flow.specs.declared.location.Location.TheVariants.{Register, Flag}
use Rattle.tso_flow.specs.declared.location.ProcedureKind.{ProcedureKind}
use Rattle.tso_flow.specs.declared.location.ProcedureKind.TheVariants.{Push, Pop}
use Rattle.tso_flow.specs.Accesses.{is_given}
use Rattle.tso_flow.specs.Faults.{is_back_without_bound, is_forward_with_bound, GoesPastEnd, ReadsUnwritten, by_code, FaultIn, HasFault, IsFirst}
use Rattle.tso_flow.specs.First.{earlier, ShapeIn, ReadIn, ReadOf}
use Rattle.tso_flow.proofs.Firsts.{first_changed, first_of_two}
use Rattle.tso_flow.proofs.Shapes.{cases, past, back, forward, unwritten}

-- ---- registers and flags

listed : (x : Location) → (k : ℕ) × (k < 19) × (slice_get LOCATIONS k ≡ Some x)
listed (Register Rax) = (0, lit< tt, refl)
listed (Register Rbx) = (1, lit< tt, refl)
listed (Register Rcx) = (2, lit< tt, refl)
listed (Register Rdx) = (3, lit< tt, refl)
listed (Register Rsi) = (4, lit< tt, refl)
listed (Register Rdi) = (5, lit< tt, refl)
listed (Register Rbp) = (6, lit< tt, refl)
listed (Register R8) = (7, lit< tt, refl)
listed (Register R9) = (8, lit< tt, refl)
listed (Register R10) = (9, lit< tt, refl)
listed (Register R11) = (10, lit< tt, refl)
listed (Register R12) = (11, lit< tt, refl)
listed (Register R13) = (12, lit< tt, refl)
listed (Register R14) = (13, lit< tt, refl)
listed (Register R15) = (14, lit< tt, refl)
listed (Flag Zero) = (15, lit< tt, refl)
listed (Flag Carry) = (16, lit< tt, refl)
listed (Flag Sign) = (17, lit< tt, refl)
listed (Flag Overflow) = (18, lit< tt, refl)

module _ (kind : ProcedureKind) (steps : List (Instruction ℕ ℕ)) (lines : List ℕ) (xs : List Location) where
  pub none_read : IsFirst (ReadOf kind steps lines xs 0) None
  none_read f s = let h : s.0 < 0 = s.2 in absurd (omega arith)

  wider : (m : ℕ) (f : Fault) → ReadOf kind steps lines xs m f → ReadOf kind steps lines xs (m + 1) f
  wider m f s = let h : s.0 < m = s.2 in (s.0, s.1, omega arith, s.3, s.4, s.5)

  -- one more register or flag
  parts : (m : ℕ) (x : Location) (f : Fault) → slice_get xs m ≡ Some x → ReadOf kind steps lines xs (m + 1) f → ReadOf kind steps lines xs m f ⊎ ((is_given kind x ≡ false) × ReadIn kind steps lines x (length steps) f)
  parts m x f is s =
      let Goal : Type 0 = ReadOf kind steps lines xs m f ⊎ ((is_given kind x ≡ false) × ReadIn kind steps lines x (length steps) f) in
      let P : ℕ → Type 0 = λ (k : ℕ). slice_get xs k ≡ Some s.1 → Goal in
      let same : (a b : Location) → a ≡ b → is_given kind a ≡ false → ReadIn kind steps lines a (length steps) f → (is_given kind b ≡ false) × ReadIn kind steps lines b (length steps) f = λ a b e g r. (subst (λ (y : Location). is_given kind y ≡ false) e g, subst (λ (y : Location). ReadIn kind steps lines y (length steps) f) e r) in
      below_more P m (λ k lt a. inl (k, s.1, lt, a, s.4, s.5)) (λ a. inr (same s.1 x (let e : s.1 ≡ x = cc (is, a) in e) s.4 s.5)) s.0 s.2 s.3

  pub more_given : (m : ℕ) (x : Location) (o : Option Fault) → slice_get xs m ≡ Some x → is_given kind x ≡ true → IsFirst (ReadOf kind steps lines xs m) o → IsFirst (ReadOf kind steps lines xs (m + 1)) o
  more_given m x o is given p = first_changed (ReadOf kind steps lines xs m) (ReadOf kind steps lines xs (m + 1)) o (wider m)
      (λ f s. elim (parts m x f is s) [ inl u ↦ u | inr h ↦ absurd (cc (given, h.0)) ]) p

  pub more_read : (m : ℕ) (x : Location) (o q : Option Fault) → slice_get xs m ≡ Some x → is_given kind x ≡ false → IsFirst (ReadOf kind steps lines xs m) o → IsFirst (ReadIn kind steps lines x (length steps)) q → IsFirst (ReadOf kind steps lines xs (m + 1)) (earlier o q)
  more_read m x o q is given p r = first_changed (λ f. ReadOf kind steps lines xs m f ⊎ ReadIn kind steps lines x (length steps) f) (ReadOf kind steps lines xs (m + 1)) (earlier o q)
      (λ f s. elim s [ inl u ↦ wider m f u | inr v ↦ (m, x, omega arith, is, given, v) ])
      (λ f s. elim (parts m x f is s) [ inl u ↦ inl u | inr h ↦ inr h.1 ])
      (first_of_two (ReadOf kind steps lines xs m) (ReadIn kind steps lines x (length steps)) o q p r)

-- ---- a procedure

module _ (kind : ProcedureKind) (procedure : Procedure) (f : Fault) where
  shape_fault : ShapeIn procedure.instructions procedure.lines (length procedure.instructions) f → FaultIn kind procedure f
  shape_fault s =
      let A : Type 0 = GoesPastEnd procedure.instructions s.0 s.1 in
      let B : Type 0 = IsTrue (is_back_without_bound s.0 s.1) in
      let C : Type 0 = IsTrue (is_forward_with_bound s.0 s.1) in
      let D : Type 0 = (x : Location) × ReadsUnwritten kind procedure.instructions x s.0 s.1 in
      let at : by_code A B C D f.code = elim (cases A B C ⊥ f.code s.5) [
        | past e a ↦ subst (λ (c : Code). by_code A B C D c) (sym e) a
        | back e b ↦ subst (λ (c : Code). by_code A B C D c) (sym e) b
        | forward e d ↦ subst (λ (c : Code). by_code A B C D c) (sym e) d
        | unwritten e h ↦ absurd h
      ] in
      (s.0, s.1, s.3, s.4, at)

  read_fault : ReadOf kind procedure.instructions procedure.lines LOCATIONS 19 f → FaultIn kind procedure f
  read_fault s =
      let r = s.5 in
      let A : Type 0 = GoesPastEnd procedure.instructions r.0 r.1 in
      let B : Type 0 = IsTrue (is_back_without_bound r.0 r.1) in
      let C : Type 0 = IsTrue (is_forward_with_bound r.0 r.1) in
      let D : Type 0 = (x : Location) × ReadsUnwritten kind procedure.instructions x r.0 r.1 in
      let d : D = (s.1, (r.5.1, not_from_false (is_given kind s.1) s.4, r.5.2)) in
      (r.0, r.1, r.3, r.4, subst (λ (c : Code). by_code A B C D c) (sym r.5.0) d)

  split : FaultIn kind procedure f → ShapeIn procedure.instructions procedure.lines (length procedure.instructions) f ⊎ ReadOf kind procedure.instructions procedure.lines LOCATIONS 19 f
  split s =
      let A : Type 0 = GoesPastEnd procedure.instructions s.0 s.1 in
      let B : Type 0 = IsTrue (is_back_without_bound s.0 s.1) in
      let C : Type 0 = IsTrue (is_forward_with_bound s.0 s.1) in
      let D : Type 0 = (x : Location) × ReadsUnwritten kind procedure.instructions x s.0 s.1 in
      let lt : s.0 < length procedure.instructions = slice_get_within procedure.instructions s.0 s.1 s.3 in
      elim (cases A B C D f.code s.4) [
        | past e a ↦ inl (s.0, s.1, lt, s.2, s.3, subst (λ (c : Code). by_code A B C ⊥ c) (sym e) a)
        | back e b ↦ inl (s.0, s.1, lt, s.2, s.3, subst (λ (c : Code). by_code A B C ⊥ c) (sym e) b)
        | forward e d ↦ inl (s.0, s.1, lt, s.2, s.3, subst (λ (c : Code). by_code A B C ⊥ c) (sym e) d)
        | unwritten e d ↦ let k = listed d.0 in inr (k.0, d.0, k.1, k.2, not-true (is_given kind d.0) d.1.1, (s.0, s.1, lt, s.2, s.3, (e, d.1.0, d.1.2)))
      ]

pub first_of_procedure : (kind : ProcedureKind) (procedure : Procedure) (a b : Option Fault) → IsFirst (ShapeIn procedure.instructions procedure.lines (length procedure.instructions)) a → IsFirst (ReadOf kind procedure.instructions procedure.lines LOCATIONS 19) b → IsFirst (FaultIn kind procedure) (earlier a b)
first_of_procedure kind procedure a b p q =
    let P : Fault → Type 0 = ShapeIn procedure.instructions procedure.lines (length procedure.instructions) in
    let Q : Fault → Type 0 = ReadOf kind procedure.instructions procedure.lines LOCATIONS 19 in
    first_changed (λ f. P f ⊎ Q f) (FaultIn kind procedure) (earlier a b) (λ f s. elim s [ inl u ↦ shape_fault kind procedure f u | inr v ↦ read_fault kind procedure f v ]) (split kind procedure) (first_of_two P Q a b p q)

-- ---- both procedures

of_client : (client : Client) (f : Fault) → HasFault client f → FaultIn Push client.push f ⊎ FaultIn Pop client.pop f
of_client client f (Push, s) = inl s
of_client client f (Pop, s) = inr s

pub first_of_client : (client : Client) (a b : Option Fault) → IsFirst (FaultIn Push client.push) a → IsFirst (FaultIn Pop client.pop) b → IsFirst (HasFault client) (earlier a b)
first_of_client client a b p q =
    first_changed (λ f. FaultIn Push client.push f ⊎ FaultIn Pop client.pop f) (HasFault client) (earlier a b) (λ f s. elim s [ inl u ↦ (Push, u) | inr v ↦ (Pop, v) ]) (of_client client)
    (first_of_two (FaultIn Push client.push) (FaultIn Pop client.pop) a b p q)
