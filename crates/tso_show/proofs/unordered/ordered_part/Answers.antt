use Rattle.std.proofs.Common.{◌∙◌, ◌+◌, List, take, sym, subst}
use Rattle.tso_fifo.specs.declared.order.Placed.{Placed}
use Rattle.tso_machine.specs.declared.label.Label.{Label}
use Rattle.tso_machine.specs.declared.label.LabelKind.TheVariants.{Reg}
use Rattle.tso_show.proofs.Runs.{first_unordered, other_serves, run_begins}
use Rattle.tso_show.specs.Unordered.{IsOrderFor}
use Rattle.tso_trace.proofs.GoodLemmas.{when_none, when_some}
use Rattle.tso_show.proofs.unordered.ordered_part.Goals as goal
use Rattle.tso_show.proofs.unordered.ordered_part.Goals.{then-is_event+in_ok-next+in-Some, else-is_event}

some_label : Label
some_label = record { thread = 0; kind = Reg }

pub order_of-requires : goal.order_of-requires
order_of-requires c = run_begins c.args.client.now c.args.labels.now (c.loop-at.at + 1) c.requires

pub returns-in-None : goal.returns-in-None
returns-in-None c =
    first_unordered c.args.client.now c.args.labels.now c.loop-at.at some_label c.loop-at.order c.loop-at-test.true c.loop-at.invariant (when_none _ _ c.in-None.is c.in_ok-next.ensures.none)

pub loop-at-preserved : goal.loop-at-preserved
loop-at-preserved c =
    let P : List Placed → Type 0 = λ o. IsOrderFor c.args.client.now (take (c.loop-at.at + 1) c.args.labels.now) o in
    elim c.if-is_event.branch [
      | then-is_event+in_ok-next+in-Some w ↦ subst P (sym w.order-is) (when_some _ _ _ w.in-Some.is w.in_ok-next.ensures.found)
      | else-is_event w ↦
          subst P (sym w.order-is)
          (other_serves c.args.client.now c.args.labels.now c.loop-at.at _ c.loop-at.order c.loop-at-test.true (sym c.is_event.ensures ∙ w.if-is_event.false) c.loop-at.invariant)
    ]
