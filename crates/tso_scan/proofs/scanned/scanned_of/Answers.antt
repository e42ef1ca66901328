use Rattle.tso_scan.proofs.HalfLemmas.{tree_learned}
use Rattle.tso_scan.proofs.scanned.scanned_of.Goals as goal

pub returns : goal.returns
returns c = λ client bytes half is stored. tree_learned client bytes c.args.table half c.args.whole c.in_ok-scanned.scanned c.if-whole-ne0.false is stored c.in_ok-scanned.ensures
