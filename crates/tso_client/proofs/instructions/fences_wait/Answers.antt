use Rattle.tso_client.proofs.Doing.{fences_change_nothing, fences_wait}
use Rattle.tso_client.proofs.instructions.fences_wait.Goals as goal

pub returns : goal.returns
returns c = let client = c.args.client.now in record { waits = fences_wait client; nothing = fences_change_nothing client }
