use Rattle.std.proofs.Common.{◌∙◌, Some, ap, map, subst, sym}
use Rattle.std.proofs.lemmas.Option.{slice_get-get_or}
use Rattle.std.specs.Prelude.{IfOk}
use Rattle.tso_check.proofs.PieceLemmas.{both_judged, one_judged, span_at}
use Rattle.tso_check.specs.Spans.{IsSpanJudged, Span}
use Rattle.tso_check.specs.declared.threads.Judged.{Judged}
use Rattle.tso_check.proofs.threads.judge_some.Goals as goal

pub loop-turn-preserved : goal.loop-turn-preserved
loop-turn-preserved g c =
    let span = g.P.Part.span in
    let pieces = c.args.pieces.now in
    let number = c.fetch_add-number.result in
    let found = c.judge-found.result in
    let got = c.in-Some.ensures.lookup in
    let judged : Judged = record { number = number; found = found } in
    both_judged (map span pieces) c.loop-turn.all.items _ c.push.new.self.items c.in_ok-push.ensures.items c.loop-turn.invariant
    (one_judged (map span pieces) judged (λ s there. subst (λ (x : Span). IfOk found (IsSpanJudged x)) (span_at span pieces number c.in-Some.piece.now s (slice_get-get_or pieces number c.in-Some.piece.now got.3.0 ∙ ap Some (sym got.1)) there) c.judge-found.ensures))
