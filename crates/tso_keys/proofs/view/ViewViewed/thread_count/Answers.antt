use Rattle.std.proofs.Common.{sym}
use Rattle.tso_keys.proofs.view.ViewViewed.thread_count.Goals as goal

pub returns : goal.returns
returns c = rw (← c.self.view_is) (sym c.self.invariant.0.width)
