use Rattle.std.proofs.Common.{sym, subst}
use Rattle.tso_cert.specs.Trees as trees
use Rattle.tso_write.proofs.CuttingLemmas.{all_numbers, strictly_rising, tree_of_worked}
use Rattle.tso_write.specs.Cutting.{AreNumbers, AreRising, IsCut}
use Rattle.tso_write.proofs.trees.tree_for.Goals as goal

pub cut_by-requires-clause-numbers : goal.cut_by-requires-clause-numbers
cut_by-requires-clause-numbers g c = λ k within.
    let w = c.args.worked.now in
    subst (AreNumbers w.store.states) (sym c.as_slice.ensures.value) (all_numbers w.store.states c.in_ok-numbers.numbers.items c.in_ok-numbers.ensures)

pub cut_by-requires-clause-rising : goal.cut_by-requires-clause-rising
cut_by-requires-clause-rising g c = λ k within.
    let w = c.args.worked.now in
    subst (AreRising w.store.states) (sym c.as_slice.ensures.value) (strictly_rising w.store.states c.in_ok-numbers.numbers.items c.in_ok-numbers.ensures c.states_differ.ensures)

pub returns : goal.returns
returns g c =
    let client = c.args.checked.now.client in
    let w = c.args.worked.now in
    let cut = subst (λ ns. IsCut client w.ground w.store.states ns (trees.tree_of c.in_ok-cert.cert)) c.as_slice.ensures.value c.in_ok-cert.ensures in
    tree_of_worked client w c.in_ok-numbers.numbers.items (trees.tree_of c.in_ok-cert.cert) c.requires.worked c.in_ok-numbers.ensures c.states_differ.ensures c.certificates_fit.ensures cut
