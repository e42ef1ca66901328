use Rattle.std.proofs.Common.{◌≡◌, ◌<◌, length, take, ap, arith}
use Rattle.tso_machine.specs.Queue.{Queue}
use Rattle.tso_machine.proofs.QueueLemmas.{undrained_is}
use Rattle.tso_machine.proofs.buffer.Buffer.undrain.Goals as goal

pub returns : goal.returns
returns c =
    let same : length (take c.self.inside.drained c.self.inside.entries.items) ≡ length c.args.self.now.past = ap (λ (q : Queue). length q.past) c.self.view_is in
    let some : 0 < length (take c.self.inside.drained c.self.inside.entries.items) = omega (arith, same, c.requires) in
    rw (← c.self.view_is) (undrained_is c.self.inside.drained c.self.inside.entries.items c.self.invariant some)
