use Rattle.std.proofs.Common.{length, sym, ◌∙◌}
use Rattle.tso_compact.proofs.PlanLemmas.{over_nowhere, over_there, waits}
use Rattle.tso_compact.proofs.plan.may_begin.Goals as goal

pub returns-in-Some : goal.returns-in-Some
returns-in-Some g c =
    let s = g.S.Viewed.state c.args.state.now in
    let over = over_there c.args.client.now s c.len-prologue.result c.in-Some.first.now c.is_over.result c.in-Some.ensures c.is_over.ensures in
    waits c.args.client.now.prologue (length c.args.client.now.threads) c.args.thread c.len-prologue.result _ c.is_over.result
    (sym c.is_empty.ensures ∙ c.if-is_empty.false) c.len-prologue.ensures c.if-thread-prologue.false over

pub returns-in-None : goal.returns-in-None
returns-in-None g c =
    let s = g.S.Viewed.state c.args.state.now in
    let over = over_nowhere c.args.client.now s c.len-prologue.result c.in-None.ensures in
    waits c.args.client.now.prologue (length c.args.client.now.threads) c.args.thread c.len-prologue.result _ _
    (sym c.is_empty.ensures ∙ c.if-is_empty.false) c.len-prologue.ensures c.if-thread-prologue.false over
