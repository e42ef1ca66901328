use Rattle.std.proofs.Common.{rules, arith}
use Rattle.std.proofs.lemmas.Option.{slice_get_within}
use Rattle.tso_foot.proofs.ClosedLemmas.{one_more}
use Rattle.tso_foot.proofs.closed.is_list_closed.Goals as goal

pub loop-i-preserved : goal.loop-i-preserved
loop-i-preserved c = one_more c.args.arrays c.args.steps.now c.args.items.now c.loop-i.i _ _ c.loop-i.invariant (c.if-not-is_item.ensures.0 (search rules))

pub returns : goal.returns
returns c = (
  λ yes. record {
    lengths = c.if-items-steps.false;
    each = λ i step item at is. let lt = slice_get_within c.args.steps.now i step at in c.loop-i.invariant i step item (omega (arith, lt, c.loop-i-test.false)) at is;
  },
  λ closed. search rules,
)
