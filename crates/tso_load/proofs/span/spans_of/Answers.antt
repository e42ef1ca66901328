use Rattle.std.proofs.Common.{◌≡◌, ◌-◌, [], arith, drop, refl, subst, sym}
use Rattle.std.proofs.Math.ListN.{drop_of_length-le}
use Rattle.tso_load.proofs.SpanLemmas.{begin_all, begin_more, next_rise, up_to}
use Rattle.tso_load.specs.Spans.{RiseFrom}
use Rattle.tso_load.proofs.span.spans_of.Goals as goal

pub loop-seam-preserved : goal.loop-seam-preserved
loop-seam-preserved c =
    let start = c.loop-seam.start in
    let next = c.in-Some.next in
    let old = c.loop-seam.spans.items in
    let new = c.push.new.self.items in
    let is = c.in_ok-push-in-Some.ensures.items in
    let so_far = c.loop-seam.invariant in
    let more = next_rise c.args.seams.now c.loop-seam.seam-index start next c.loop-seam-test.true c.in-Some.is c.if-next-start.true in
    record {
      behind = up_to start next old new (record { start = start; most = next - start }) so_far.behind refl refl c.if-next-start.true is;
      begin = begin_more old new (record { start = start; most = next - start }) c.args.seams.now c.loop-seam.seam-index so_far.begin is next c.loop-seam-test.true c.in-Some.is;
      rise = (λ r. more.0 (so_far.rise.0 r), λ r. so_far.rise.1 (more.1 r));
    }

pub returns-clause-seams : goal.returns-clause-seams
returns-clause-seams c =
    begin_all c.loop-seam.spans.items c.push-2.new.self.items (record { start = c.loop-seam.start; most = 18446744073709551615 }) c.args.seams.now c.loop-seam.seam-index c.loop-seam.invariant.begin c.in_ok-push.ensures.items (omega (arith, c.loop-seam-test.false))

pub returns-clause-rise : goal.returns-clause-rise
returns-clause-rise c =
    let behind : drop c.loop-seam.seam-index c.args.seams.now ≡ [] = drop_of_length-le c.args.seams.now (omega (arith, c.loop-seam-test.false)) in
    c.loop-seam.invariant.rise.1 (subst (RiseFrom c.loop-seam.start) (sym behind) tt)
