use Rattle.std.proofs.Common.{◌≡◌, ◌++◌, List, subst, sym}
use Rattle.std.proofs.lemmas.List.{map-append}
use Rattle.std.specs.Prelude.{OnOk}
use Rattle.tso_cert.proofs.SeenLemmas.{both_seen, keeps_trans, on_both, on_ok, states_stay}
use Rattle.tso_cert.specs.Lookup.{tree_states}
use Rattle.tso_cert.specs.Seen.{AreSeen}
use Rattle.tso_cert.specs.Trees.{records_of, tree_of}
use Rattle.tso_rec.specs.Records.{states_of}
use Rattle.tso_rec.specs.declared.record.Record.{Record}
use Rattle.tso_state.specs.declared.state.State.{State}
use Rattle.tso_cert.proofs.intervals.+take_tree.Goals as goal

pub returns-in-Leaf-clause-seen : goal.returns-in-Leaf-clause-seen
returns-in-Leaf-clause-seen t c = rw c.in-Leaf.is c.take_leaf.ensures.seen

pub returns-in_ok-take_tree-in-Fork-clause-keeps : goal.returns-in_ok-take_tree-in-Fork-clause-keeps
returns-in_ok-take_tree-in-Fork-clause-keeps t c =
    on_ok c.take_tree-in-Fork.result (keeps_trans c.args.hull.now c.take_tree.new.hull c.take_tree-in-Fork.new.hull c.in_ok-take_tree-in-Fork.ensures.keeps) c.take_tree-in-Fork.ensures.keeps

pub returns-in_ok-take_tree-in-Fork-clause-seen : goal.returns-in_ok-take_tree-in-Fork-clause-seen
returns-in_ok-take_tree-in-Fork-clause-seen t c =
    let left = c.in-Fork.left.value in
    let right = c.in-Fork.right.value in
    let middle = c.take_tree.new.hull in
    let after = c.take_tree-in-Fork.new.hull in
    let Seen : List State → Type 0 = λ states. OnOk c.take_tree-in-Fork.result (AreSeen after states) in
    let joined : states_of (records_of (tree_of left) ++ records_of (tree_of right)) ≡ tree_states (tree_of left) ++ tree_states (tree_of right) =
    map-append (λ (r : Record). r.state) (records_of (tree_of left)) (records_of (tree_of right)) in
    let first : AreSeen middle (tree_states (tree_of left)) = rw (sym c.deref.ensures) c.in_ok-take_tree-in-Fork.ensures.seen in
    let second : OnOk c.take_tree-in-Fork.result (AreSeen after (tree_states (tree_of right))) = rw (sym c.deref-in-Fork.ensures) c.take_tree-in-Fork.ensures.seen in
    rw c.in-Fork.is
    (subst Seen (sym joined)
    (on_both c.take_tree-in-Fork.result
    (λ keeps q. both_seen after (tree_states (tree_of left)) (tree_states (tree_of right)) (states_stay middle after (tree_states (tree_of left)) keeps first) q)
    c.take_tree-in-Fork.ensures.keeps second))
