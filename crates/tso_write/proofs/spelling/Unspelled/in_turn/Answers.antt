use Rattle.std.proofs.Common.{◌/◌, arith, length}
use Rattle.tso_write.proofs.SpellingLemmas.{some_left, spelled_in_two}
use Rattle.tso_write.proofs.spelling.Unspelled.in_turn.Goals as goal

pub returns : goal.returns
returns c =
    let p = c.args.self.now in
    let ns = p.numbers.now in
    let high = c.split_at.result.1.now in
    let two =
    spelled_in_two p.checked.now.client p.store.now.client p.ground.now p.store.now.states p.speller.now ns c.split_at.result.0.now high (omega (arith, c.if-count-le-LEAF.false)) c.split_at.ensures.front c.split_at.ensures.back c.requires.ready in
    (two.0, two.1, two.2, some_left high ns (length ns / 2) c.split_at.ensures.back (omega (arith, c.if-count-le-LEAF.false)))
