-- There is one least closed table of arrays.
use Rattle.std.proofs.Common.{◌≡◌, ◌∙◌, ℕ, suc, List, [], ◌∷◌, length, refl, sym, arith}
use Rattle.tso_foot.proofs.BitLemmas.{same_masks}
use Rattle.tso_foot.specs.Closed.{IsAbove, IsListClosed}
use Rattle.tso_foot.specs.Masks.{masks_at}
use Rattle.tso_foot.specs.declared.masks.Masks.{Masks}
use Rattle.tso_foot.specs.declared.table.ArrayTable.{ArrayTable}
use Rattle.tso_line.specs.declared.instruction.Instruction.{Instruction}
use Rattle.tso_prog.specs.declared.client.Client.{Client}
use Rattle.tso_rec.specs.Conditions.{IsLeast}

both_masks : (a b : Masks) → a.reads ≡ b.reads → a.writes ≡ b.writes → a ≡ b
both_masks a b e f = λ i. record { reads = e i; writes = f i }

same_items : (xs ys : List Masks) → length xs ≡ length ys → ((i : ℕ) → masks_at xs i ≡ masks_at ys i) → xs ≡ ys
same_items [] [] e same = refl
same_items [] (y ∷ ys) e same = absurd (omega (arith, e))
same_items (x ∷ xs) [] e same = absurd (omega (arith, e))
same_items (x ∷ xs) (y ∷ ys) e same =
    let first : x ≡ y = same 0 in
    let rest = same_items xs ys (omega (arith, e)) (λ i. same (suc i)) in
    λ k. first k ∷ rest k

-- two lists for the same instructions of which each has what the other has
alike : (arrays : ℕ) (steps : List (Instruction ℕ ℕ)) (xs ys : List Masks) → IsListClosed arrays steps xs → IsListClosed arrays steps ys → IsAbove xs ys → IsAbove ys xs → xs ≡ ys
alike arrays steps xs ys p q above below =
    same_items xs ys (p.lengths ∙ sym q.lengths)
    (λ i. both_masks (masks_at xs i) (masks_at ys i) (same_masks _ _ (below.reads i) (above.reads i)) (same_masks _ _ (below.writes i) (above.writes i)))

pub same_least : (c : Client) (x y : ArrayTable) → IsLeast c x → IsLeast c y → x ≡ y
same_least c x y p q =
    let below = p.least y q.closed in
    let above = q.least x p.closed in
    let push = alike (length c.arrays) c.push.instructions x.push y.push p.closed.push q.closed.push above.push below.push in
    let pop = alike (length c.arrays) c.pop.instructions x.pop y.pop p.closed.pop q.closed.pop above.pop below.pop in
    λ i. record { push = push i; pop = pop i }
