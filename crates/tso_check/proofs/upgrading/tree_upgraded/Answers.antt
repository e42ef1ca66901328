use Rattle.tso_cert.specs.Trees.{tree_of}
use Rattle.tso_check.proofs.upgrading.tree_upgraded.Goals as goal

pub len-records-requires : goal.len-records-requires
len-records-requires c = c.in-Ok.ensures.found.1.1

pub returns-in_ok-new-in-Ok : goal.returns-in_ok-new-in-Ok
returns-in_ok-new-in-Ok c = record { tree = tree_of c.in-Ok.tree; within = c.in-Ok.ensures.found.1; renewed = c.in_ok-new-in-Ok.ensures; counted = c.len-records.ensures }
