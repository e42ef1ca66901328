use Rattle.std.proofs.Common.{sym}
use Rattle.tso_check.proofs.numbered.judge_number.Goals as goal

pub judge_view-requires-clause-fits : goal.judge_view-requires-clause-fits
judge_view-requires-clause-fits c = rw c.get-fits.ensures (c.requires.forms c.args.number c.in-Some.view (sym c.in-Some.ensures.state))
