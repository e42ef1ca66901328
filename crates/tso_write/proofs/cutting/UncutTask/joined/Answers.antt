use Rattle.tso_cert.specs.Trees.{tree_of}
use Rattle.tso_write.proofs.TaskLemmas.{first_right, fork_of_halves}
use Rattle.tso_write.specs.Tasks.{uncut}
use Rattle.tso_write.proofs.cutting.UncutTask.joined.Goals as goal

pub state_at-requires : goal.state_at-requires
state_at-requires c =
    let p = c.args.self.now in
    let l = c.args._left.now in
    let r = c.args.right.now in
    first_right (uncut p.checked.now.client p.ground.now p.store.now.states p.numbers.now) (uncut l.checked.now.client l.ground.now l.store.now.states l.numbers.now)
    (uncut r.checked.now.client r.ground.now r.store.now.states r.numbers.now) c.requires.ready.1 c.requires.halves

pub returns : goal.returns
returns c =
    let p = c.args.self.now in
    let l = c.args._left.now in
    let r = c.args.right.now in
    rw (c.in_ok-first.ensures.ok, c.in_ok-second.ensures.ok)
    (fork_of_halves (uncut p.checked.now.client p.ground.now p.store.now.states p.numbers.now) (uncut l.checked.now.client l.ground.now l.store.now.states l.numbers.now)
    (uncut r.checked.now.client r.ground.now r.store.now.states r.numbers.now) (tree_of c.args.first) (tree_of c.args.second) c.in_ok-middle.middle c.requires.ready.1 c.requires.halves c.requires.first c.requires.second c.in_ok-middle.ensures)
