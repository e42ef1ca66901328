use Rattle.std.proofs.Common.{map, rules}
use Rattle.tso_check.proofs.threads.+fn-judge_by-join+arg3+judge_by.Goals as goal

pub returns : goal.returns
returns g t c = c.both.ensures (map g.P.Part.span c.args.pieces.now) (search rules) (search rules)
