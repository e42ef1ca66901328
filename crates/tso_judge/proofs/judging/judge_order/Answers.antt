use Rattle.std.proofs.Common.{refl, subst, sym}
use Rattle.std.proofs.lemmas.Bool.{false≢true}
use Rattle.tso_fifo.specs.Orders.{IsOrderOf, order_view}
use Rattle.tso_hist.specs.Views.{history_view}
use Rattle.tso_judge.proofs.JudgeLemmas.{no_explanation}
use Rattle.tso_judge.proofs.judging.judge_order.Goals as goal
use Rattle.tso_rec.specs.Bases.{basis}
use Rattle.tso_rec.specs.declared.record.End.TheVariants as ends

pub returns-then-not-is_linearization : goal.returns-then-not-is_linearization
returns-then-not-is_linearization g c =
    let client = c.args.checked.now.client in
    no_explanation client (basis c.args.grain c.args.table.now) (Unit {0}) (Unit {0}) (g.S.Viewed.state c.args.state.now) (ends.Order c.args.order.now) c.requires (c.if-not-is_over.ensures.0 refl) tt tt (c.if-not-has_no_stopped.ensures.0 refl)
    (λ h. absurd (false≢true (c.if-not-is_linearization.ensures.1 (subst (λ l. IsOrderOf client.mode client.capacity l (order_view (history_view l) c.args.order.now)) (sym c.history.ensures) h))))

pub returns : goal.returns
returns g c =
    let client = c.args.checked.now.client in
    record {
      well_formed = c.requires;
      fits = c.if-not-is_over.ensures.0 refl;
      reasons = tt;
      successors = tt;
      unstopped = c.if-not-has_no_stopped.ensures.0 refl;
      explained = subst (λ l. IsOrderOf client.mode client.capacity l (order_view (history_view l) c.args.order.now)) c.history.ensures (c.if-not-is_linearization.ensures.0 refl);
      within = tt;
    }
