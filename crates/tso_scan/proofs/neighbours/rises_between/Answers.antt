use Rattle.std.proofs.Common.{◌-◌, ◌∙◌, List, arith, refl, subst, sym}
use Rattle.std.proofs.lemmas.Bool.{false≢true}
use Rattle.std.specs.declared.cmp.Ordering.TheVariants.{Less}
use Rattle.tso_keys.specs.Orders.{IsOrderOf}
use Rattle.tso_scan.proofs.NeighbourLemmas.{rises_more, rises_none}
use Rattle.tso_scan.proofs.neighbours.rises_between.Goals as goal
use Rattle.tso_state.specs.declared.state.State.{State}

pub loop-number-init : goal.loop-number-init
loop-number-init c = (rises_none c.args.states.now.states c.args.from, c.rising-rising.ensures)

pub returns-then-not-is_above : goal.returns-then-not-is_above
returns-then-not-is_above c =
    let n = c.loop-number.number in
    let P : List State → Type 0 = λ states. IsOrderOf states (n - 1) n Less in
    (λ e. absurd (false≢true e), λ r. absurd (false≢true (c.if-not-is_above.ensures.order.1 (subst P (sym c.loop-number.invariant.1) (r n c.loop-number.auto.number c.loop-number-test.true)))))

pub loop-number-preserved : goal.loop-number-preserved
loop-number-preserved c =
    let n = c.loop-number.number in
    let P : List State → Type 0 = λ states. IsOrderOf states (n - 1) n Less in (
      rises_more c.args.states.now.states c.args.from n c.loop-number.invariant.0 (subst P c.loop-number.invariant.1 (c.if-not-is_above.ensures.order.0 refl)),
      c.if-not-is_above.ensures.stays ∙ c.loop-number.invariant.1,
    )

pub returns : goal.returns
returns c = (λ e k le lt. c.loop-number.invariant.0 k le (omega (arith, lt, c.loop-number-test.false)), λ r. refl)
