use Rattle.std.proofs.Common.{◌≡◌, Some, ap, sym, ◌∙◌}
use Rattle.tso_rec.specs.Keeping.{records_of}
use Rattle.tso_rec.specs.declared.kept.Kept.{Kept}
use Rattle.tso_rec.proofs.KeptLemmas.{end_at}
use Rattle.tso_rec.proofs.packed.Packed.end.Goals as goal

pub returns : goal.returns
returns c =
    let list : c.args.self.now ≡ records_of c.as_slice.result.now = cc in
    end_at c.args.self.now c.as_slice.result.now c.args.k c.index-as_slice-k.result list c.requires c.index-as_slice-k.is ∙ ap (λ (x : Kept). Some x.end) c.index-as_slice-k.is ∙ ap Some (sym c.get.ensures)
