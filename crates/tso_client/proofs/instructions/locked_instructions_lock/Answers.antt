use Rattle.tso_client.proofs.Doing.{locked_do, locked_lock}
use Rattle.tso_client.proofs.instructions.locked_instructions_lock.Goals as goal

pub returns : goal.returns
returns c = let client = c.args.client.now in record { locks = locked_lock client; does = locked_do client }
