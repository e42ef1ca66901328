use Rattle.std.proofs.Common.{List, arith, sym, subst}
use Rattle.std.proofs.lemmas.Option.{slice_get_within}
use Rattle.tso_cells.specs.declared.interval.Interval.{Interval}
use Rattle.std.proofs.lemmas.Bool.{or_parts}
use Rattle.tso_cells.proofs.RowLemmas.{none_rows_grown, passed_on, range_at, then_rows_grown}
use Rattle.tso_cells.specs.Rows.{ArePassed}
use Rattle.tso_cells.specs.declared.growing.Growth.TheVariants.{Whole}
use Rattle.tso_cells.proofs.rows.spread_wide.Goals as goal

pub loop-i-init : goal.loop-i-init
loop-i-init c = record { grown = none_rows_grown Whole c.args.rows.now; proper = λ all. all; passed = λ none i step lt. absurd (omega (arith, lt)) }

pub pass_on-is_grown-requires-clause-range : goal.pass_on-is_grown-requires-clause-range
pass_on-is_grown-requires-clause-range c = range_at c.args.steps.now c.loop-i.i _ c.loop-i-test.true c.requires.range

pub loop-i-preserved : goal.loop-i-preserved
loop-i-preserved c =
    let known = c.loop-i.invariant in
    let more = c.pass_on-is_grown.ensures in
    record {
      grown = then_rows_grown Whole c.args.rows.now c.loop-i.rows c.pass_on-is_grown.new.rows c.loop-i.is_grown c.pass_on-is_grown.result known.grown more.grown;
      proper = λ all. more.proper (known.proper all);
      passed = λ none.
          let both = or_parts c.loop-i.is_grown c.pass_on-is_grown.result none in
          let same = more.grown.same both.1 in
          passed_on c.args.steps.now c.pass_on-is_grown.new.rows c.loop-i.i _ (subst (λ (rows : List (List Interval)). ArePassed c.args.steps.now rows c.loop-i.i) (sym same) (known.passed both.0)) (more.passed both.1);
    }

pub returns : goal.returns
returns c = record {
  grown = c.loop-i.invariant.grown;
  proper = c.loop-i.invariant.proper;
  passed = λ none i step lt at. c.loop-i.invariant.passed none i step (let past = c.loop-i-test.false in let within = slice_get_within c.args.steps.now i step at in omega (arith, past, within)) at;
}
