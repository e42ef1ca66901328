use Rattle.tso_cert.specs.Trees.{tree_of, records_of}
use Rattle.tso_cert.proofs.LookupLemmas.{left_only, right_only}
use Rattle.tso_cert.proofs.lookup.+finds.Goals as goal

pub returns-then-is_below : goal.returns-then-is_below
returns-then-is_below t c =
    let split = rw c.in-Fork.is at c.requires in
    let found = rw c.deref.ensures at c.finds.ensures in
    rw c.in-Fork.is (left_only (records_of (tree_of c.in-Fork.left.value)) (records_of (tree_of c.in-Fork.right.value)) c.args.state.now c.in-Fork.middle c.finds.result (c.is_below.ensures.0 c.if-is_below.true) split.3 found)

pub returns-else-is_below : goal.returns-else-is_below
returns-else-is_below t c =
    let split = rw c.in-Fork.is at c.requires in
    let found = rw c.deref-else-is_below.ensures at c.finds-else-is_below.ensures in
    rw c.in-Fork.is (right_only (records_of (tree_of c.in-Fork.left.value)) (records_of (tree_of c.in-Fork.right.value)) c.args.state.now c.in-Fork.middle c.finds-else-is_below.result (λ h. let yes = c.is_below.ensures.1 h in absurd cc) split.2 found)
