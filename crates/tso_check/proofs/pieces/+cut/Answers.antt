use Rattle.tso_check.proofs.PieceLemmas.{cut_twice, not_cut}
use Rattle.tso_check.proofs.pieces.+cut.Goals as goal

pub returns-then-halvings-eq0 : goal.returns-then-halvings-eq0
returns-then-halvings-eq0 g t c = not_cut g.P.Part.span g.P.Part.is_ready c.args.part c.args.pieces.now.items c.push.new.self.items c.requires c.in_ok-push.ensures.items

pub returns-in_default : goal.returns-in_default
returns-in_default g t c = not_cut g.P.Part.span g.P.Part.is_ready c.args.part c.args.pieces.now.items c.push-in_default.new.self.items c.requires c.in_ok-push-2.ensures.items

pub returns : goal.returns
returns g t c =
    cut_twice g.P.Part.span g.P.Part.is_ready c.args.part c.in-Some.left c.in-Some.right c.args.pieces.now.items c.cut.new.pieces.items c.cut-2.new.pieces.items c.in-Some.ensures.0 c.in_ok-cut.ensures c.in_ok-cut-2.ensures
