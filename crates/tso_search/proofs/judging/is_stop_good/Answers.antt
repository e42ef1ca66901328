use Rattle.std.proofs.Common.{sym}
use Rattle.tso_search.proofs.GoodLemmas.{judged_by}
use Rattle.tso_search.proofs.judging.is_stop_good.Goals as goal

pub returns : goal.returns
returns c =
    judged_by c.args.checked.now.client c.args.store.now.states c.args.new c.in-Some.stop (sym c.in-Some.ensures.state) (c.has_no_stopped.ensures.0 c.if-not-has_no_stopped.false)
    c.is_explained.result c.is_explained.ensures
