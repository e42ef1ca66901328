use Rattle.std.proofs.Common.{arith}
use Rattle.tso_cells.proofs.Growth.{inside_refl, inside_trans}
use Rattle.tso_cells.proofs.StartLemmas.{all_first, one_more}
use Rattle.tso_cells.proofs.arguments.with_arguments.Goals as goal

pub loop-n-init : goal.loop-n-init
loop-n-init c = record { keeps = inside_refl c.args.interval; has = λ n v lt. absurd (omega (arith, lt)) }

pub loop-n-preserved : goal.loop-n-preserved
loop-n-preserved c = record {
  keeps = inside_trans c.args.interval c.loop-n.all c.with_argument-all.result c.loop-n.invariant.keeps c.with_argument-all.ensures.keeps;
  has = one_more c.loop-n.all c.with_argument-all.result c.args.calls.now c.loop-n.n _ c.with_argument-all.ensures.keeps c.loop-n.invariant.has c.with_argument-all.ensures.has;
}

pub returns : goal.returns
returns c = record { keeps = c.loop-n.invariant.keeps; has = all_first c.loop-n.all c.args.calls.now c.loop-n.n c.loop-n-test.false c.loop-n.invariant.has }
