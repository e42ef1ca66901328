use Rattle.tso_explore.proofs.FirstLemmas.{all_alone}
use Rattle.tso_explore.proofs.exploring.found_alone.Goals as goal

pub worked_out-requires-clause-searched : goal.worked_out-requires-clause-searched
worked_out-requires-clause-searched g c = all_alone c.args.checked.now.client c.args.limit c.args.ground c.args.store c.args.number c.requires.begun c.requires.all
