use Rattle.std.proofs.Common.{◌∙◌, ◌+◌, ◌<◌, ◌||◌, List, length, arith, sym, subst}
use Rattle.tso_cells.specs.declared.interval.Interval.{Interval}
use Rattle.tso_cells.proofs.TakingUp.{IsTaking, inside_words, taken_all, taking_first, taking_on}
use Rattle.tso_cells.proofs.rows.take_up.Goals as goal

pub loop-k-init : goal.loop-k-init
loop-k-init c = taking_first c.args.growth c.args.row.now c.args.other.now

pub loop-k-preserved : goal.loop-k-preserved
loop-k-preserved c =
    let lt : c.loop-k.k < length c.loop-k.row = omega arith in
    subst (λ (row : List Interval). IsTaking c.args.growth c.args.row.now row c.args.other.now (c.loop-k.k + 1) (c.loop-k.is_grown || c.grow-is_grown.result)) (sym c.grow-is_grown.ensures.set)
    (taking_on c.args.growth c.args.row.now c.loop-k.row c.args.other.now c.loop-k.k _ c.loop-k.is_grown c.grow-is_grown.result lt c.loop-k-test.true (inside_words _ c.grow-is_grown.ensures.small) c.grow-is_grown.ensures.flag c.loop-k.invariant)

pub returns : goal.returns
returns c = record {
  grown = c.loop-k.invariant.grew;
  holds = (c.loop-k.invariant.grew.count ∙ c.requires, taken_all c.args.growth c.args.row.now c.loop-k.row c.args.other.now c.loop-k.k c.loop-k.is_grown c.loop-k-test.false c.loop-k.invariant);
  proper = c.loop-k.invariant.proper;
}
