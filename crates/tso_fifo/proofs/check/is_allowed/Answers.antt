use Rattle.std.proofs.Common.{◌≡◌, ℕ, ◌+◌, ◌-◌, List, get_or, drop, take, Some, refl, sym, ap, ◌∙◌, subst, arith}
use Rattle.std.proofs.lemmas.Bool.{false≢true}
use Rattle.std.proofs.lemmas.List.{length-drop, length-take}
use Rattle.std.proofs.lemmas.Option.{none-some, slice_get-get_or}
use Rattle.tso_fifo.proofs.Filled.{checked-here, checked-more, front_drop, length-pushed}
use Rattle.tso_fifo.proofs.Steps.{MayAnswer}
use Rattle.tso_fifo.specs.Contents.{pushed}
use Rattle.tso_fifo.specs.Orders.{kind_of, placed_in}
use Rattle.tso_fifo.specs.declared.order.Placed.{Placed}
use Rattle.tso_hist.specs.Views.{called_view, history_view}
use Rattle.tso_model.specs.Linear.{call_at}
use Rattle.tso_model.specs.States.{Called}
use Rattle.tso_model.specs.Programs.{CallKind}
use Rattle.tso_prog.specs.Views.{answer_view, mode_view}
use Rattle.tso_fifo.proofs.check.is_allowed.Goals as goal

pub returns-in_default : goal.returns-in_default
returns-in_default c =
    let b = c.requires c.loop-i.i _ c.loop-i-test.true in
    absurd (none-some b.call (c.in_default.ensures.value ∙ b.at))

-- the kind that the order's call has in the history
asked : (h : List (List Called)) (x : Placed) (c : Called) → Some c ≡ call_at h x.thread x.call → c.kind ≡ (placed_in h x).kind
asked h x c at = ap kind_of at

pub returns-then-not-may_answer : goal.returns-then-not-may_answer
returns-then-not-may_answer c = (
  λ e. absurd (false≢true e),
  λ (after, steps).
      let h = history_view c.args.history.now in
      let all = pushed h (take c.loop-i.i c.args.order.now) in
      let x = get_or c.args.order.now c.loop-i.i _ in
      let may = checked-here (mode_view c.args.queue.mode) c.args.queue.capacity h c.args.order.now c.loop-i.i c.loop-i.taken x after c.loop-i.invariant (slice_get-get_or c.args.order.now c.loop-i.i _ c.loop-i-test.true) steps in
      (c.if-not-may_answer.ensures (drop c.loop-i.taken all) (length-drop c.loop-i.taken all ∙ ap (λ (n : ℕ). n - c.loop-i.taken) (sym c.pushed_count.ensures)) (front_drop c.loop-i.taken all ∙ sym c.pushed_at-front.ensures)).1
      (subst (λ (k : CallKind). MayAnswer (mode_view c.args.queue.mode) c.args.queue.capacity (drop c.loop-i.taken all) k (answer_view x.answer)) (sym (asked h x (called_view c.in-Some.call.now) c.in-Some.ensures.view)) may),
)

pub loop-i-preserved : goal.loop-i-preserved
loop-i-preserved c =
    let h = history_view c.args.history.now in
    let all = pushed h (take c.loop-i.i c.args.order.now) in
    let x = get_or c.args.order.now c.loop-i.i _ in
    let m = (c.if-not-may_answer.ensures (drop c.loop-i.taken all) (length-drop c.loop-i.taken all ∙ ap (λ (n : ℕ). n - c.loop-i.taken) (sym c.pushed_count.ensures)) (front_drop c.loop-i.taken all ∙ sym c.pushed_at-front.ensures)).0 refl in
    let may = subst (λ (k : CallKind). MayAnswer (mode_view c.args.queue.mode) c.args.queue.capacity (drop c.loop-i.taken all) k (answer_view x.answer)) (asked h x (called_view c.in-Some.call.now) c.in-Some.ensures.view) m in
    rw c.taken_by-taken.ensures (checked-more (mode_view c.args.queue.mode) c.args.queue.capacity h c.args.order.now c.loop-i.i c.loop-i.taken x c.loop-i.invariant (slice_get-get_or c.args.order.now c.loop-i.i _ c.loop-i-test.true) may)

pub overflow_add-taken : goal.overflow_add-taken
overflow_add-taken c =
    let h = history_view c.args.history.now in
    let all = pushed h (take c.loop-i.i c.args.order.now) in
    let x = get_or c.args.order.now c.loop-i.i _ in
    let m = (c.if-not-may_answer.ensures (drop c.loop-i.taken all) (length-drop c.loop-i.taken all ∙ ap (λ (n : ℕ). n - c.loop-i.taken) (sym c.pushed_count.ensures)) (front_drop c.loop-i.taken all ∙ sym c.pushed_at-front.ensures)).0 refl in
    let may = subst (λ (k : CallKind). MayAnswer (mode_view c.args.queue.mode) c.args.queue.capacity (drop c.loop-i.taken all) k (answer_view x.answer)) (asked h x (called_view c.in-Some.call.now) c.in-Some.ensures.view) m in
    let k = checked-more (mode_view c.args.queue.mode) c.args.queue.capacity h c.args.order.now c.loop-i.i c.loop-i.taken x c.loop-i.invariant (slice_get-get_or c.args.order.now c.loop-i.i _ c.loop-i-test.true) may in
    let le = length-pushed h (take (c.loop-i.i + 1) c.args.order.now) in
    let short = length-take (c.loop-i.i + 1) c.args.order.now in
    omega (arith, k.within, le, short, c.taken_by-taken.ensures)
