use Rattle.std.proofs.Common.{◌++◌}
use Rattle.tso_cert.specs.Trees.{records_of, tree_of}
use Rattle.tso_check.proofs.RisingLemmas.{left_stops, right_goes_on}
use Rattle.tso_check.proofs.WalkLemmas.{if_ok}
use Rattle.tso_check.proofs.rising.+rises.Goals as goal
use Rattle.tso_check.specs.Risen.{GoesOnTo}
use Rattle.tso_rec.specs.Records.{states_of}

pub returns-in-To : goal.returns-in-To
returns-in-To t c =
    let left = records_of (tree_of c.in-Fork.left.value) in
    let right = records_of (tree_of c.in-Fork.right.value) in
    let first = rw c.in-To.is at (rw c.deref.ensures at c.in_ok-last-in-Fork.ensures) in
    let second = rw c.deref-in-To.ensures at c.rises-in-To.ensures in
    rw c.in-Fork.is (if_ok (GoesOnTo c.in-To.last (states_of right)) (GoesOnTo c.args.last (states_of (left ++ right))) c.rises-in-To.result
    (λ found. right_goes_on left right c.args.last c.in-To.last found first) second)

pub returns-in-Not : goal.returns-in-Not
returns-in-Not t c =
    let left = records_of (tree_of c.in-Fork.left.value) in
    let right = records_of (tree_of c.in-Fork.right.value) in
    rw c.in-Fork.is (left_stops left right c.args.last (rw c.in-Not.is at (rw c.deref.ensures at c.in_ok-last-in-Fork.ensures)))
