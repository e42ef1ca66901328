use Rattle.std.proofs.Common.{◌∙◌, arith, rules, sym}
use Rattle.std.proofs.lemmas.Bool.{false≢true}
use Rattle.tso_cells.proofs.PlaceLemmas.{at_each, from_all}
use Rattle.tso_cells.proofs.TestLemmas.{ForeseesAt, all_proper, foresees_more}
use Rattle.tso_cells.specs.Inductive.{IsProper}
use Rattle.tso_cells.proofs.inductive.is_list_inductive.Goals as goal

pub loop-i-preserved : goal.loop-i-preserved
loop-i-preserved c =
    foresees_more c.args.arrays.now c.args.steps.now c.args.items.now c.loop-i.i _ c.index-items-i.result c.loop-i.invariant c.index-items-i.is (c.foresees.ensures.0 c.if-not-foresees.false)

pub returns : goal.returns
returns c = (
  λ yes. record {
    lengths = c.if-items-steps.false;
    each = λ i step item at is. record {
      proper = from_all (IsProper c.args.arrays.now) c.args.items.now (c.are_proper.ensures.0 c.if-not-are_proper.false) i item is;
      foresees = at_each (ForeseesAt c.args.arrays.now c.args.steps.now c.args.items.now) c.args.items.now c.loop-i.i c.loop-i.invariant (omega (arith, c.loop-i-test.false, c.if-items-steps.false)) i item is step at;
    };
  },
  λ is. search rules,
)

pub returns-then-not-are_proper : goal.returns-then-not-are_proper
returns-then-not-are_proper c = (
  λ no. absurd (false≢true no),
  λ is. sym c.if-not-are_proper.true ∙ c.are_proper.ensures.1 (all_proper c.args.arrays.now c.args.steps.now c.args.items.now is),
)
