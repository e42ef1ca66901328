use Rattle.tso_cert.specs.Trees.{tree_of}
use Rattle.tso_check.proofs.Goodness.{each_run_is_good}
use Rattle.tso_search.specs.Grounds.{basis_of}
use Rattle.tsoq.proofs.round.found_of.Goals as goal

pub certified-found-requires-clause-good : goal.certified-found-requires-clause-good
certified-found-requires-clause-good g c = each_run_is_good c.in_ok-checked.checked.client (basis_of c.in-Certificate.ground) (tree_of c.in-Certificate.cert) c.in-Certificate.ensures.valid
