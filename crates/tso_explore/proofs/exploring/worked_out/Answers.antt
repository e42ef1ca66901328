use Rattle.std.proofs.Common.{arith, refl}
use Rattle.tso_explore.proofs.exploring.worked_out.Goals as goal

pub returns : goal.returns
returns c =
    let few = c.requires.few in
    let limit = c.requires.limit in (record { client = c.requires.client; closed = c.requires.closed; least = c.requires.least; searched = c.requires.searched; few = omega (arith, few, limit) }, few, refl)
