use Rattle.std.proofs.Common.{arith}
use Rattle.tso_search.proofs.MarkLemmas.{marked_resized}
use Rattle.tso_search.proofs.marks.make_room.Goals as goal

pub returns-in_ok-resize-clause-same : goal.returns-in_ok-resize-clause-same
returns-in_ok-resize-clause-same c = marked_resized c.args.marks.now.items c.resize.new.self.items c.args.number _ (let e = c.len.ensures in let past = c.if-at-len.true in omega (arith, e, past)) c.in_ok-resize.ensures.items
