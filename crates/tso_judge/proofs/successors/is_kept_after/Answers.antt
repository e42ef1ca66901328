use Rattle.tso_cert.specs.Lookup.{tree_states}
use Rattle.tso_cert.specs.Trees.{tree_of}
use Rattle.tso_judge.proofs.SuccessorLemmas.{kept_after}
use Rattle.tso_judge.proofs.successors.is_kept_after.Goals as goal

pub returns-in-Ok : goal.returns-in-Ok
returns-in-Ok c = kept_after c.args.checked.now.client (tree_states (tree_of c.args.cert.now)) c.args.state.now c.in-Ok.after c.args.actor c.has.result c.in-Ok.ensures.ok c.has.ensures
