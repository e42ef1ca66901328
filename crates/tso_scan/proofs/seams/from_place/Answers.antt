use Rattle.tso_scan.proofs.HalfLemmas.{end_from}
use Rattle.tso_scan.proofs.seams.from_place.Goals as goal

pub returns : goal.returns
returns c = end_from c.args.bytes.now c.split_at.result.1.now c.args.place c.split_at.ensures.back
