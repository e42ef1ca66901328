use Rattle.std.proofs.Common.{refl}
use Rattle.std.proofs.lemmas.Bool.{false≢true}
use Rattle.tso_fifo.proofs.Entries.{all_apart, all_begun, all_returned, to_order}
use Rattle.tso_fifo.proofs.check.is_linearization.Goals as goal

pub returns-then-not-are_begun : goal.returns-then-not-are_begun
returns-then-not-are_begun c = rw (← c.as_slice-order.ensures) (λ e. absurd (false≢true e), λ l. c.if-not-are_begun.ensures.1 (all_begun c.args.mode c.args.capacity c.args.history.now c.as_slice-order.result.now l))

pub returns-then-not-is_ordered : goal.returns-then-not-is_ordered
returns-then-not-is_ordered c = rw (← c.as_slice-order.ensures) (λ e. absurd (false≢true e), λ l. c.if-not-is_ordered.ensures.1 (all_apart c.args.mode c.args.capacity c.args.history.now c.as_slice-order.result.now l))

pub returns-then-not-has_all_returned : goal.returns-then-not-has_all_returned
returns-then-not-has_all_returned c = rw (← c.as_slice-order.ensures) (λ e. absurd (false≢true e), λ l. c.if-not-has_all_returned.ensures.1 (all_returned c.args.mode c.args.capacity c.args.history.now c.as_slice-order.result.now l))

pub returns : goal.returns
returns c = rw (← c.as_slice-order.ensures) (
  λ e. to_order c.args.mode c.args.capacity c.args.history.now c.as_slice-order.result.now (c.if-not-are_begun.ensures.0 refl) (c.if-not-is_ordered.ensures.0 refl) (c.if-not-has_all_returned.ensures.0 refl) (c.is_allowed.ensures.0 e),
  λ l. c.is_allowed.ensures.1 l.allowed,
)
