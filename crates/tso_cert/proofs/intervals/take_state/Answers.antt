use Rattle.std.proofs.Common.{arith, below_more}
use Rattle.std.proofs.lemmas.Option.{slice_get_within}
use Rattle.tso_cert.proofs.SeenLemmas.{keeps_trans, thread_stays}
use Rattle.tso_cert.specs.Seen.{ThreadIsSeen}
use Rattle.tso_cert.proofs.intervals.take_state.Goals as goal

pub loop-number-preserved : goal.loop-number-preserved
loop-number-preserved g c =
    let before = c.loop-number.hull in
    let after = c.take_thread.new.hull in
    let s = g.S.Viewed.state c.args.state.now in
    record {
      keeps = keeps_trans c.args.hull.now before after c.loop-number.invariant.keeps c.take_thread.ensures.keeps;
      seen = below_more (ThreadIsSeen after s) c.loop-number.number (λ i lt. thread_stays before after s i c.take_thread.ensures.keeps (c.loop-number.invariant.seen i lt)) c.take_thread.ensures.seen;
    }

pub returns-clause-seen : goal.returns-clause-seen
returns-clause-seen g c = λ i thread at.
    let within = slice_get_within (g.S.Viewed.state c.args.state.now).threads i thread at in
    c.loop-number.invariant.seen i (omega (arith, within, c.loop-number-test.false, c.thread_count-number-end.ensures)) thread at
