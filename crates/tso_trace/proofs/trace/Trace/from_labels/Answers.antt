use Rattle.std.proofs.Common.{rules}
use Rattle.std.proofs.lemmas.Grind.{merely}
use Rattle.tso_trace.proofs.GoodLemmas.{empty_is_good, erring_copy}
use Rattle.tso_trace.proofs.trace.Trace.from_labels.Goals as goal

pub invariant_of-result : goal.invariant_of-result
invariant_of-result c = record {
  erring = merely (erring_copy c.args.checked.now.client _ _ c.args.labels.items _ _ c.in_ok-copied.ensures c.deref-2.ensures.value c.deref.ensures.value c.from_vec.ensures
      c.in_ok-take_steps.ensures.run (c.in_ok-is_good.ensures.errs c.if-branch.false));
}

pub returns-then-is_empty-clause-refused : goal.returns-then-is_empty-clause-refused
returns-then-is_empty-clause-refused c = empty_is_good c.args.checked.now.client c.args.labels.items (search rules)
