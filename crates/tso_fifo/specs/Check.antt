-- The parts of the test of an order.
use Rattle.std.specs.Prelude.{◌≡◌, ◌⊎◌, ℕ, List, [], Option, Some, None, Contains, slice_get, slice_index_or}
use Rattle.tso_fifo.specs.declared.order.Placed.{Placed}
use Rattle.tso_hist.specs.declared.call.Call.{Call}
use Rattle.tso_fifo.specs.declared.queue.Queue.{Queue}
use Rattle.tso_fifo.specs.Orders.{order_view}
use Rattle.tso_line.specs.declared.instruction.CallKind.{CallKind}
use Rattle.tso_model.specs.Linear.{Precedes, placed_calls}
use Rattle.tso_model.specs.Objects.{QueueStep, QueueSteps}
use Rattle.tso_model.specs.States.{Called}
use Rattle.tso_prog.specs.Views.{answer_view, call_view, mode_view}
use Rattle.tso_prog.specs.declared.answer.Answer.{Answer}

-- call k of the thread
abbrev pub begun_at : List (List Call) → ℕ → ℕ → Option Call
begun_at h thread k = slice_get (slice_index_or h thread []) k

-- call k of t is another one than x, and had not returned when x began
abbrev pub IsApart : List (List Called) → ℕ → ℕ → Placed → Type 0
IsApart h t k x = ¬ ((x.thread ≡ t) × (x.call ≡ k)) × ¬ (Precedes h t k x.thread x.call)

-- the call has begun, and is pending or has this answer
pub record IsBegun (h : List (List Call)) (x : Placed) : Type 0 where
  pub call : Call
  pub at : begun_at h x.thread x.call ≡ Some call
  pub answers : (call.answer ≡ None) ⊎ (call.answer ≡ Some x.answer)

-- the order has each returned call with its answer
abbrev pub HasAllReturned : List (List Call) → List Placed → Type 0
HasAllReturned h order =
    (t k : ℕ) (c : Call) (a : Answer) → begun_at h t k ≡ Some c → c.answer ≡ Some a → Contains order (record { thread = t; call = k; answer = a })

-- the order has each returned one of these calls of a thread, with its answer
abbrev pub HasReturned : ℕ → List Call → List Placed → Type 0
HasReturned thread calls order =
    (k : ℕ) (c : Call) (a : Answer) → slice_get calls k ≡ Some c → c.answer ≡ Some a → Contains order (record { thread = thread; call = k; answer = a })

-- a queue of this rule that is empty at first may answer so
abbrev pub IsAllowed : Queue → List (List Called) → List Placed → Type 0
IsAllowed queue h order = (after : List ℕ) × QueueSteps (mode_view queue.mode) queue.capacity [] (placed_calls (order_view h order)) after

-- a queue of this rule with these items may answer so
abbrev pub MayAnswer : Queue → List ℕ → CallKind → Answer → Type 0
MayAnswer queue items kind answer = (after : List ℕ) × QueueStep (mode_view queue.mode) queue.capacity items (call_view kind) (answer_view answer) after
