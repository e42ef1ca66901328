-- What a frame holds after one register or the flags are written.
use Rattle.std.proofs.Common.{◌≡◌, ℕ, zero, suc, Bool, true, false, List, [], ◌∷◌, length, get_or, set, refl, sym, subst, arith, if◌then◌else◌}
use Rattle.std.proofs.lemmas.Bool.{eq-eqb, eqb-false, eqb-true}
use Rattle.std.proofs.lemmas.List.{get_or-set_other, length-set}
use Rattle.tso_line.specs.declared.instruction.Register.{Register}
use Rattle.tso_flow.specs.Accesses.{is_same, register_number}
use Rattle.tso_machine.specs.Frames.{register_of}
use Rattle.tso_machine.specs.Instructions.{with_register}
use Rattle.tso_machine.specs.declared.frame.Frame.{Frame}

pub same_refl : (r : Register) → is_same r r ≡ true
unfolding is_same
same_refl r = eq-eqb (register_number r) (register_number r) refl

pub same_number : (r s : Register) → is_same r s ≡ true → register_number r ≡ register_number s
unfolding is_same
same_number r s e = eqb-true (register_number r) (register_number s) e

-- a write of one register leaves the others
pub other_register : (f : Frame) (r s : Register) (w : ℕ) → is_same r s ≡ false → register_of (with_register r w f) s ≡ register_of f s
unfolding is_same
other_register f r s w e =
    get_or-set_other f.registers (register_number r) (register_number s) w 0 (λ h. eqb-false (register_number r) (register_number s) e (sym h))

-- a write keeps the number of registers
pub as_many : (f : Frame) (r : Register) (w : ℕ) → length (with_register r w f).registers ≡ length f.registers
as_many f r w = length-set f.registers (register_number r) w

same_write : (xs ys : List ℕ) (n w : ℕ) → length xs ≡ length ys → get_or (set xs n w) n 0 ≡ get_or (set ys n w) n 0
same_write [] [] n w e = refl
same_write [] (y ∷ ys) n w e = absurd (omega arith)
same_write (x ∷ xs) [] n w e = absurd (omega arith)
same_write (x ∷ xs) (y ∷ ys) zero w e = refl
same_write (x ∷ xs) (y ∷ ys) (suc n) w e = same_write xs ys n w (omega arith)

-- in two frames a write of the same word leaves the same word in its register
pub written_register : (f g : Frame) (r s : Register) (w v : ℕ) → is_same r s ≡ true → length f.registers ≡ length g.registers → w ≡ v
    → register_of (with_register r w f) s ≡ register_of (with_register r v g) s
written_register f g r s w v same many e =
    let Q : ℕ → Type 0 = λ n. get_or (set f.registers (register_number r) w) n 0 ≡ get_or (set g.registers (register_number r) v) n 0 in
    let P : ℕ → Type 0 = λ u. get_or (set f.registers (register_number r) w) (register_number r) 0 ≡ get_or (set g.registers (register_number r) u) (register_number r) 0 in
    subst Q (same_number r s same) (subst P e (same_write f.registers g.registers (register_number r) w many))

pub either : (b : Bool) (f g : Frame) (P : Frame → Type 0) → P f → P g → P (if b then f else g)
either true f g P p q = p
either false f g P p q = q
