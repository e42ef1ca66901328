use Rattle.std.proofs.Common.{arith}
use Rattle.tso_cells.proofs.HullLemmas.{words_all, words_first, words_on}
use Rattle.tso_cells.proofs.hulls.with_words.Goals as goal

pub loop-k-init : goal.loop-k-init
loop-k-init c = words_first c.args.row.now c.args.words.now

pub loop-k-preserved : goal.loop-k-preserved
loop-k-preserved c =
    let size = c.loop-k.invariant.count in
    words_on c.args.row.now c.args.words.now c.loop-k.after c.loop-k.k _ c.with_word.result _ (omega (arith, size)) (omega arith) c.with_word.ensures.is c.with_word.ensures.has c.loop-k.invariant

pub returns : goal.returns
returns c =
    let all = words_all c.args.row.now c.args.words.now c.loop-k.after c.loop-k.k (omega arith) (omega arith) c.loop-k.invariant in
    record { is = all.0; lie = all.1 }
