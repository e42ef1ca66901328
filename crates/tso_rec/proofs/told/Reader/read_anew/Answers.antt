use Rattle.std.proofs.Common.{[], Some, ap, ◌∙◌, sym}
use Rattle.tso_rec.specs.Fronts.{fronts}
use Rattle.tso_rec.proofs.told.Reader.read_anew.Goals as goal

pub invariant_of-told : goal.invariant_of-told
invariant_of-told g c = record {
  reads = ap (λ x. g.T.Code.read_at (g.T.Code.spell x)) c.in_ok-again.ensures
      ∙ (fronts g.met.T.Readable.one_spelling).own c.args.bytes.now c.in_ok-part.rest.now c.in_ok-part.part c.in_ok-part.ensures.read
      ∙ ap (λ x. Some (x, [])) (sym c.in_ok-again.ensures);
}
