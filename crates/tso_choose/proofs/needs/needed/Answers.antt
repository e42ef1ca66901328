use Rattle.std.proofs.Common.{arith}
use Rattle.tso_choose.proofs.NeedLemmas.{needed_all, needed_next}
use Rattle.tso_choose.specs.Needs.{is_needed}
use Rattle.tso_state.specs.Actors.{thread_of}
use Rattle.tso_choose.proofs.needs.needed.Goals as goal

pub loop-other-preserved : goal.loop-other-preserved
loop-other-preserved g c = λ b.
    needed_next c.loop-other.set c.needed_of-set.result (thread_of b) c.loop-other.other (is_needed c.args.checked.now.client c.args.table.now (g.S.Viewed.state c.args.state.now) c.args.kind c.args.own b) b
    (c.loop-other.invariant b) (c.needed_of-set.ensures b)

pub returns : goal.returns
returns g c = λ b. needed_all c.args.checked.now.client c.args.table.now (g.S.Viewed.state c.args.state.now) c.args.kind c.args.own c.loop-other.other c.loop-other.set b
    (omega (arith, c.loop-other-test.false, c.thread_count-other-end.ensures)) (c.loop-other.invariant b)
