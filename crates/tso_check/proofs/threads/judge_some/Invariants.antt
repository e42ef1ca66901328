use Rattle.std.proofs.Common.{map}
use Rattle.tso_check.specs.Pieces.{AreJudgedIn}
use Rattle.tso_check.proofs.threads.judge_some.Given as goal

abbrev pub invariant-loop-turn : goal.invariant-loop-turn
invariant-loop-turn g l = AreJudgedIn (map g.P.Part.span l.pieces) l.all.items
