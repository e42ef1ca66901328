use Rattle.std.proofs.Common.{◌≡◌, ◌∙◌, Some, ap, arith, length, slice_get, sym}
use Rattle.std.proofs.lemmas.List.{length_push}
use Rattle.std.proofs.lemmas.Option.{slice_get-get_or}
use Rattle.tso_keys.proofs.Procedures.{running_more}
use Rattle.tso_keys.proofs.running.learn_running.Goals as goal

pub loop-number-preserved : goal.loop-number-preserved
loop-number-preserved c =
    let got = c.in-Some.ensures.lookup in
    let at = slice_get-get_or c.values.result.now c.loop-number.number c.in-Some.history.now got.3.0 ∙ ap Some (sym got.1) in
    let there : slice_get c.args.histories.now (length c.loop-number.running) ≡ Some c.in-Some.history.now = rw c.loop-number.invariant.1 (rw c.values.ensures at at) in
    let long = length_push c.loop-number.running c.running_in.result in (
      rw c.in_ok-push.ensures.ok (running_more c.args.histories.now c.loop-number.running c.in-Some.history.now c.running_in.result c.loop-number.invariant.0 there c.running_in.ensures),
      rw c.in_ok-push.ensures.ok (omega (arith, long, c.loop-number.invariant.1)),
    )
