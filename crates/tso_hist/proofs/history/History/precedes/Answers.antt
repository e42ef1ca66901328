use Rattle.tso_hist.specs.Views.{called_view, history_view}
use Rattle.tso_hist.proofs.Viewed.{precedes_none, precedes_some}
use Rattle.tso_hist.proofs.history.History.precedes.Goals as goal

pub returns-in_default-get : goal.returns-in_default-get
returns-in_default-get c = precedes_none (history_view c.args.self.now) c.args.thread c.args.call c.args.later_thread c.args.later_call (called_view c.in-Some.later.now) c.in-Some.ensures.view c.in_default-get.ensures

pub returns : goal.returns
returns c = precedes_some (history_view c.args.self.now) c.args.thread c.args.call c.args.later_thread c.args.later_call (called_view c.in-Some.later.now) c.in-Some-get.seen.now c.in-Some.ensures.view c.in-Some-get.ensures
