use Rattle.std.proofs.Common.{◌≡◌, ◌-◌, ℕ, List, suc, get_or, length, None, Some, ap, sym, ◌∙◌, arith}
use Rattle.std.proofs.lemmas.List.{length-map}
use Rattle.tso_rec.specs.Keeping.{record_of, records_of}
use Rattle.tso_rec.specs.Parts.{kept_after, kept_from}
use Rattle.tso_rec.specs.declared.kept.Kept.{Kept}
use Rattle.tso_rec.specs.declared.record.Record.{Record}
use Rattle.tso_rec.proofs.PartLemmas.{kept_at}
use Rattle.tso_rec.proofs.packed.Packed.parts_kept.Goals as goal

pub returns : goal.returns
returns c =
    let list : c.args.self.now ≡ records_of c.as_slice-kept.result.now = cc in
    let long : length c.args.self.now ≡ length c.as_slice-kept.result.now = ap (λ (rs : List Record). length rs) list ∙ length-map c.as_slice-kept.result.now record_of in
    let next : c.args.k ≡ suc (c.args.k - 1) = omega (arith, c.if-k-eq0.false) in
    let kept = kept_at None c.as_slice-kept.result.now (c.args.k - 1) c.index-kept-k-3.result c.index-kept-k-2.result (omega (arith, next, c.requires, long)) in
    let after = λ (x y : Kept). kept_after (record_of x).state (record_of y).state in
    ap (λ (rs : List Record). kept_from None rs c.args.k) list
    ∙ ap (λ (n : ℕ). kept_from None (records_of c.as_slice-kept.result.now) n) next
    ∙ kept
    ∙ ap (λ (n : ℕ). Some (after (get_or c.as_slice-kept.result.now (c.args.k - 1) c.index-kept-k-3.result) (get_or c.as_slice-kept.result.now n c.index-kept-k-2.result))) (sym next)
    ∙ ap (λ (x : Kept). Some (after x (get_or c.as_slice-kept.result.now c.args.k c.index-kept-k-2.result))) (sym c.index-kept-k-3.is)
    ∙ ap (λ (y : Kept). Some (after c.index-kept-k-3.result y)) (sym c.index-kept-k-2.is)
    ∙ ap Some (sym c.kept_after.ensures)
