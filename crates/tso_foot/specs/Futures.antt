-- Which arrays of the memory a thread may still read and write, by a table of arrays.
use Rattle.std.specs.Prelude.{ℕ, List, [], fold, length, bit_or, Option, None, Some, slice_get, slice_index_or}
use Rattle.std.proofs.Common.{drop}
use Rattle.tso_flow.specs.Calls.{kind_of}
use Rattle.tso_flow.specs.declared.location.ProcedureKind.{ProcedureKind}
use Rattle.tso_foot.specs.Closed.{items_of}
use Rattle.tso_foot.specs.Masks.{array_mask, array_of, masks_at, no_masks, union}
use Rattle.tso_foot.specs.declared.masks.Masks.{Masks}
use Rattle.tso_foot.specs.declared.table.ArrayTable.{ArrayTable}
use Rattle.tso_line.specs.declared.instruction.CallKind.{CallKind}
use Rattle.tso_machine.specs.Programs.{calls_in}
use Rattle.tso_machine.specs.declared.buffer.Entry.{Entry}
use Rattle.tso_prog.specs.declared.client.Array.{Array}
use Rattle.tso_prog.specs.declared.client.Client.{Client}
use Rattle.tso_state.specs.Views.{running_procedure}
use Rattle.tso_state.specs.declared.state.Core.{Core}
use Rattle.tso_state.specs.declared.state.Core.TheVariants.{Idle, Running, Stopped}
use Rattle.tso_state.specs.declared.state.State.{State}
use Rattle.tso_state.specs.declared.state.Thread.{Thread}

-- of these calls, from their first instructions on
abbrev pub calls_masks : ArrayTable → List CallKind → Masks
calls_masks t calls = fold (λ (masks : Masks) (k : CallKind). union masks (masks_at (items_of t (kind_of k)) 0)) no_masks calls

-- the arrays that buffered entries go to
abbrev pub buffer_mask : List Array → List Entry → ℕ
buffer_mask arrays entries = fold (λ (mask : ℕ) (e : Entry). bit_or mask (array_mask (array_of arrays e.place))) 0 entries

-- of a core that runs this procedure and has these calls still to begin
abbrev pub core_masks : ArrayTable → ProcedureKind → List CallKind → Core → Masks
core_masks t name calls Idle = calls_masks t calls
core_masks t name calls (Running frame) = union (masks_at (items_of t name) frame.pc) (calls_masks t calls)
core_masks t name calls Stopped = no_masks

-- of a thread: what its core may, and to the writes the arrays in its buffer
abbrev pub thread_masks : Client → ArrayTable → ProcedureKind → List CallKind → Thread → Masks
thread_masks c t name calls thread = union (core_masks t name calls thread.core) (record { reads = 0; writes = buffer_mask c.arrays thread.buffer })

-- the client's calls of thread i that have not begun
abbrev pub calls_to_come : Client → State → ℕ → List CallKind
calls_to_come c s i = drop (length (slice_index_or s.history i [])) (calls_in c.threads c.prologue i)

-- what thread i of the state, which is this, may still read and write
abbrev pub future_of : Client → ArrayTable → State → ℕ → Thread → Masks
future_of c t s i thread = thread_masks c t (running_procedure (slice_index_or s.history i [])) (calls_to_come c s i) thread

-- of the thread, if there is such a one
abbrev pub future_if : Client → ArrayTable → State → ℕ → Option Thread → Masks
future_if c t s i None = no_masks
future_if c t s i (Some thread) = future_of c t s i thread

-- what thread i of the state may still read and write
abbrev pub future_masks : Client → ArrayTable → State → ℕ → Masks
future_masks c t s i = future_if c t s i (slice_get s.threads i)
