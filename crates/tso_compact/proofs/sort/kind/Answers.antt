use Rattle.std.proofs.Common.{◌∙◌}
use Rattle.tso_compact.proofs.SortLemmas.{drain_kind, exec_kind, no_kind}
use Rattle.tso_compact.specs.Plans.{procedure_in}
use Rattle.tso_compact.proofs.sort.kind.Goals as goal

pub returns-in_err-thread : goal.returns-in_err-thread
returns-in_err-thread g c =
    no_kind c.args.checked.now.client (g.S.Viewed.state c.args.state.now) c.args.actor c.thread-number.result c.from_residual.result c.thread-number.ensures c.in_err-thread.ensures c.from_residual.ensures

pub returns-in-Exec : goal.returns-in-Exec
returns-in-Exec g c =
    c.core_kind.ensures
    ∙ exec_kind c.args.checked.now.client (g.S.Viewed.state c.args.state.now) c.args.actor c.in-Exec.field-0 c.thread-number.result c.in_ok-thread.thread.now c.in-Exec.is c.thread-number.ensures c.in_ok-thread.ensures

pub returns-in-Drain : goal.returns-in-Drain
returns-in-Drain g c =
    let s = g.S.Viewed.state c.args.state.now in
    c.drain_kind.ensures (procedure_in s c.thread-number.result)
    ∙ drain_kind c.args.checked.now.client s c.args.actor c.in-Drain.field-0 c.thread-number.result c.in_ok-thread.thread.now c.in-Drain.is c.thread-number.ensures c.in_ok-thread.ensures
