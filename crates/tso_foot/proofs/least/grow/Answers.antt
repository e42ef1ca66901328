use Rattle.std.proofs.Common.{◌≤◌}
use Rattle.tso_foot.proofs.LeastLemmas.{differ, grows, joined_reads, joined_writes}
use Rattle.tso_foot.specs.Masks.{masks_at}
use Rattle.tso_foot.proofs.least.grow.Goals as goal

pub returns-clause-new : goal.returns-clause-new
returns-clause-new c = λ yes.
    let items = c.args.items.now in
    let i = c.args.i in
    let m = c.joined-item.result in
    let reads : (masks_at items i).reads ≤ m.reads = rw c.joined-item.ensures.is (joined_reads items i c.args.step) in
    let writes : (masks_at items i).writes ≤ m.writes = rw c.joined-item.ensures.is (joined_writes items i c.args.step) in
    grows items i m c.requires.inside reads writes c.joined-item.ensures.small.0 c.joined-item.ensures.small.1 (differ items i _ m c.ne-is_new.result c.requires.inside c.ne-is_new.ensures yes)
