use Rattle.tso_cert.specs.Trees as trees
use Rattle.tso_write.proofs.CuttingLemmas.{wider}
use Rattle.tso_explore.proofs.exploring.certificate_of.Goals as goal

pub returns-in-Ok : goal.returns-in-Ok
returns-in-Ok g c =
    wider c.args.checked.now.client _ c.args.limit c.args.worked.ground (trees.tree_of c.in-Ok.cert) c.requires.few c.in-Ok.ensures.good
