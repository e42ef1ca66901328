use Rattle.std.proofs.Common.{◌≡◌, ◌∙◌, ℕ, zero, suc, List, [], ◌∷◌, ◌++◌, replicate, add-one, ap, refl, sym, arith}
use Rattle.tso_cells.specs.declared.interval.Interval.{Interval}
use Rattle.tso_cells.specs.Growing.{empty}
use Rattle.tso_cells.specs.Hulls.{empty_rows}
use Rattle.tso_cells.proofs.hulls.empty_rows.Goals as goal

one_more : {X : Type 0} (n : ℕ) (x : X) → replicate n x ++ x ∷ [] ≡ replicate (suc n) x
one_more zero x = refl
one_more {X = X} (suc n) x = ap (λ (xs : List X). x ∷ xs) (one_more n x)

pub loop-position-preserved : goal.loop-position-preserved
loop-position-preserved c =
    let n = c.loop-position._position in
    c.in_ok-push.ensures.items ∙ (ap (λ (rows : List (List Interval)). rows ++ replicate 15 empty ∷ []) c.loop-position.invariant ∙ (one_more n (replicate 15 empty) ∙ ap empty_rows (sym (add-one n))))

pub returns : goal.returns
returns c =
    let past = c.loop-position-test.false in
    let within = c.loop-position.auto in
    let all : c.loop-position._position ≡ c.args.count = omega (arith, past, within) in
    c.from_vec.ensures ∙ (c.loop-position.invariant ∙ ap empty_rows all)
