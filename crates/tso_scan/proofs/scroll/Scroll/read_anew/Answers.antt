use Rattle.tso_rec.specs.Fronts.{fronts}
use Rattle.tso_scan.proofs.scroll.Scroll.read_anew.Goals as goal

pub keep-requires : goal.keep-requires
keep-requires g c = (fronts g.met.T.Readable.one_spelling).own c.args.bytes.now c.in-Ok.rest.now c.in-Ok.part c.in-Ok.ensures.read
