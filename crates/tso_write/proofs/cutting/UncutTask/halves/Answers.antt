use Rattle.std.proofs.Common.{arith}
use Rattle.tso_write.proofs.TaskLemmas.{cut_in_two}
use Rattle.tso_write.proofs.cutting.UncutTask.halves.Goals as goal

pub returns : goal.returns
returns c =
    let p = c.args.self.now in
    let two = cut_in_two p.checked.now.client p.ground.now p.store.now.states p.numbers.now c.split_at.result.0.now c.split_at.result.1.now (omega (arith, c.if-count-le-ALONE.false)) c.split_at.ensures.front c.split_at.ensures.back c.requires.1 in (two.0, (c.requires.0, two.1), (c.requires.0, two.2))
