use Rattle.tso_client.proofs.Doing.{loads_read, outside_is_fault, stores_write}
use Rattle.tso_client.proofs.instructions.operands_are_accessed.Goals as goal

pub returns : goal.returns
returns c = let client = c.args.client.now in record { loads = loads_read client; stores = stores_write client; outside = outside_is_fault client }
