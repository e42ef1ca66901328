use Rattle.std.proofs.Common.{subst, sym}
use Rattle.tso_cert.specs.Seen.{CoreIsSeen}
use Rattle.tso_cert.proofs.intervals.take_core.Goals as goal

pub returns-in-Running-clause-seen : goal.returns-in-Running-clause-seen
returns-in-Running-clause-seen c =
    subst (CoreIsSeen c.take_registers.new.hull c.args.procedure) (sym c.in-Running.is) (record { count = c.take_registers.ensures.count; lie = c.take_registers.ensures.lie })
