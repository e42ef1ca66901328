use Rattle.tso_write.proofs.CuttingLemmas.{record_made}
use Rattle.tso_write.proofs.cutting.record_of.Goals as goal

pub returns : goal.returns
returns c =
    record_made c.args.checked.now.client c.args.ground.now c.args.store.now.states c.args.recorder.now c.args.number c.in-Some.kept c.in_ok-end-2.end c.in_ok-end.end c.in_ok-kept.field-0 c.requires.searched c.requires.closed c.requires.there c.requires.same
    c.in_ok-end.ensures c.in_ok-end-2.ensures c.in-Some.is c.in_ok-kept.ensures
