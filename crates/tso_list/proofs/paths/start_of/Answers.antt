use Rattle.std.proofs.Common.{◌≡◌, ◌∙◌, ℕ, zero, suc, ◌-◌, ◌≤◌, List, length, get_or, refl, sym, ap, arith}
use Rattle.tso_list.specs.Cuts.{start_at}
use Rattle.tso_list.proofs.Cutting.{start_at-suc, start_at-zero}
use Rattle.tso_list.proofs.paths.start_of.Goals as goal

pub returns-then-number-eq0 : goal.returns-then-number-eq0
returns-then-number-eq0 c = rw c.if-number-eq0.true (sym (start_at-zero 0 c.args.ends.now))

before : (ends : List ℕ) (n : ℕ) → (n ≡ 0 → ⊥) → n ≤ length ends → get_or ends (n - 1) 0 ≡ start_at 0 ends n
before ends zero h k = absurd (h refl)
before ends (suc n) h k =
    let e : suc n - 1 ≡ n = omega arith in
    ap (λ (x : ℕ). get_or ends x 0) e ∙ sym (start_at-suc 0 ends n (omega arith))

pub returns : goal.returns
returns c = before c.args.ends.now c.args.number c.if-number-eq0.false c.requires
