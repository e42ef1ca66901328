use Rattle.std.proofs.Common.{List, AllPairs, arith, subst, refl}
use Rattle.std.proofs.lemmas.Bool.{false≢true}
use Rattle.std.proofs.lemmas.List.{take_all}
use Rattle.tso_fifo.specs.Check.{IsApart}
use Rattle.tso_fifo.specs.declared.order.Placed.{Placed}
use Rattle.tso_fifo.proofs.Entries.{AllPairs-more, AllPairs-at}
use Rattle.tso_hist.specs.Views.{history_view}
use Rattle.tso_model.specs.States.{Called}
use Rattle.tso_fifo.proofs.check.is_ordered.Goals as goal

abbrev Follow : List (List Called) → Placed → Placed → Type 0
Follow h x y = IsApart h y.thread y.call x

pub returns-then-not-may_follow : goal.returns-then-not-may_follow
returns-then-not-may_follow c =
    (λ e. absurd (false≢true e), λ all. c.if-not-may_follow.ensures.1 (AllPairs-at (Follow (history_view c.args.history.now)) c.args.order.now c.loop-i.i _ (omega arith) all))

pub loop-i-preserved : goal.loop-i-preserved
loop-i-preserved c =
    AllPairs-more (Follow (history_view c.args.history.now)) c.args.order.now c.loop-i.i _ (omega arith) c.loop-i.invariant (c.if-not-may_follow.ensures.0 refl)

pub returns : goal.returns
returns c =
    let all : AllPairs (Follow (history_view c.args.history.now)) c.args.order.now = subst (AllPairs (Follow (history_view c.args.history.now))) (take_all c.loop-i.i c.args.order.now (omega arith)) c.loop-i.invariant in
    (λ e. all, λ a. refl)
