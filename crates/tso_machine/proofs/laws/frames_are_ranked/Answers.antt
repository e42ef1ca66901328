use Rattle.tso_machine.proofs.Ranked.{ranked}
use Rattle.tso_machine.proofs.laws.frames_are_ranked.Goals as goal

pub returns : goal.returns
returns c = ranked c.args.checked.now.client
