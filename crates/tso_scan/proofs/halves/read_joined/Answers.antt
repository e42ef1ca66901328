use Rattle.std.proofs.Common.{Bool, subst, sym}
use Rattle.std.specs.Prelude.{IsTrue}
use Rattle.tso_scan.proofs.HalfLemmas.{forked}
use Rattle.tso_scan.proofs.halves.read_joined.Goals as goal
use Rattle.tso_scan.specs.Halves.{AreHalvesOf, stretch_at}

pub returns-in_ok-half-in-Ok-Some : goal.returns-in_ok-half-in-Ok-Some
returns-in_ok-half-in-Ok-Some c =
    let whole = stretch_at c.args.whole.now in
    let left = stretch_at c.args.left.now in
    let right = stretch_at c.args.right.now in
    let halves = subst (λ (b : Bool). AreHalvesOf b whole left right) (sym c.is_apart-apart.ensures) c.requires.halves in
    let grafted = rw c.in-Ok-Some.field-0-is at c.in-Ok-Some.ensures in
    let made = c.in_ok-half-in-Ok-Some.ensures in
    forked c.is_apart-apart.result whole left right c.args.first c.args.second c.in_ok-half-in-Ok-Some.half c.graft.new.states c.in-Ok-Some.room
    halves c.requires.first c.requires.second grafted.grafted (rw grafted.records at made.fork)
    (λ e. c.rise_joined-all_rise.ensures c.args.first.states.states c.args.second.states.states grafted.grafted.taken.states c.len-count.ensures c.requires.first.rises c.requires.second.rises (subst IsTrue made.rises e))
