use Rattle.tso_keys.proofs.Ordered.{by_history, by_threads}
use Rattle.tso_keys.proofs.orders.compare_fronts.Goals as goal

pub returns-in-Equal-clause-decided : goal.returns-in-Equal-clause-decided
returns-in-Equal-clause-decided c = λ other.
    let rows = rw (c.as_slice.ensures, c.as_slice-in-Equal.ensures) at c.compare_rows.ensures in
    by_threads c.args.parts.now c.args.a.now c.args.b.now c.compare_parts.result c.compare_rows.result c.requires.first.1.key c.requires.second.1.key c.requires.alike c.compare_parts.ensures.order c.in-Equal.is rows other

pub returns-in-Equal-clause-left : goal.returns-in-Equal-clause-left
returns-in-Equal-clause-left c = λ equal o is.
    let rows = rw (c.as_slice.ensures, c.as_slice-in-Equal.ensures) at c.compare_rows.ensures in
    by_history c.args.parts.now c.args.a.now c.args.b.now c.compare_parts.result c.compare_rows.result o c.requires.first.1.key c.requires.second.1.key c.requires.alike c.compare_parts.ensures.order c.in-Equal.is rows equal is
