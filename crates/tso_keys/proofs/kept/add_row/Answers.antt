use Rattle.std.proofs.Common.{◌∙◌, arith}
use Rattle.std.proofs.lemmas.List.{length-set}
use Rattle.tso_parts.proofs.Outcomes.{on_err}
use Rattle.tso_keys.proofs.Rows.{no_row, row_step, was_nowhere}
use Rattle.tso_keys.proofs.kept.add_row.Goals as goal

pub loop-i-preserved : goal.loop-i-preserved
loop-i-preserved g c = (
  row_step c.loop-i.catalog c.add_near.new.catalog c.loop-i.numbers c.args.all.now c.loop-i.i c.in_ok-number.number c.index-all-i.result c.loop-i.invariant.0 c.add_near.ensures.extends c.loop-i.invariant.2 c.requires.few c.loop-i-test.true c.index-all-i.is c.in_ok-number.ensures.number,
  λ i x e. c.add_near.ensures.extends i x (c.loop-i.invariant.1 i x e),
  length-set c.loop-i.numbers c.loop-i.i c.in_ok-number.number ∙ c.loop-i.invariant.2,
  λ h. c.add_near.ensures.small (c.loop-i.invariant.3 h),
  omega (arith, c.add_near.ensures.more, c.loop-i.invariant.4),
)

pub returns-in_err-number-clause-absent : goal.returns-in_err-number-clause-absent
returns-in_err-number-clause-absent g c = on_err _ (no_row c.args.catalog.now c.args.all.now c.loop-i.i c.index-all-i.result c.loop-i-test.true c.index-all-i.is (was_nowhere c.args.catalog.now c.loop-i.catalog c.index-all-i.result c.loop-i.invariant.1 c.in_err-number.ensures.absent))
