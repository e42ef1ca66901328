-- What closed tables say of runs.
use Rattle.std.specs.Prelude.{ℕ, List, IsTrue}
use Rattle.tso_cells.specs.Laws as cells
use Rattle.tso_compact.specs.Laws.{initial_of}
use Rattle.tso_foot.specs.Ahead.{future_reads, future_writes}
use Rattle.tso_foot.specs.Closed.{IsClosed, items_of}
use Rattle.tso_foot.specs.Masks.{has_place, masks_at}
use Rattle.tso_foot.specs.Within.{IsWithin, is_within}
use Rattle.tso_foot.specs.declared.table.ArrayTable.{ArrayTable}
use Rattle.tso_foot.specs.declared.table.Table.{Table}
use Rattle.tso_foot.specs.declared.table.Table.TheVariants.{Arrays, Intervals}
use Rattle.tso_machine.specs.Activations.{Activation}
use Rattle.tso_machine.specs.Programs.{program_of}
use Rattle.tso_machine.specs.Soundness.{rank}
use Rattle.tso_model.specs.Futures.{HasDrainOf, HasReadOf}
use Rattle.tso_model.specs.Labels.{Label, Machine, Run, machine_of}
use Rattle.tso_model.specs.Measure.{IsRanked}
use Rattle.tso_model.specs.Reduce.{Steps}
use Rattle.tso_model.specs.Steps.{Actor, step}
use Rattle.tso_model.specs.Table as model
use Rattle.tso_model.specs.WellFormed as states
use Rattle.tso_prog.specs.declared.client.Client.{Client}
use Rattle.tso_state.specs.Views.{state_of}
use Rattle.tso_state.specs.WellFormed.{IsWellFormed, word_count}
use Rattle.tso_state.specs.declared.state.State.{State}

-- a table of arrays as the model's, of places in place of arrays: of a running call it says what the item at the call's position says
abbrev pub arrays_view : Client → ArrayTable → model.Table Activation
arrays_view c t = record {
  reads = λ a place. has_place c.arrays (masks_at (items_of t a.procedure) a.frame.pc).reads place;
  writes = λ a place. has_place c.arrays (masks_at (items_of t a.procedure) a.frame.pc).writes place;
}

-- a table of either form as the model's
abbrev pub table_view : Client → Table → model.Table Activation
table_view c (Arrays t) = arrays_view c t
table_view c (Intervals t) = cells.table_view c t

-- a closed table is closed in the model's sense, at frames whose registers lie where it says: it has each access of each instruction, and
-- what may follow
abbrev pub ClosedIsTheModels : Client → Type 0
ClosedIsTheModels c = (t : Table) → IsClosed c t → model.IsTableClosed (program_of c) (is_within c t) (table_view c t)

-- such frames lead to such frames of lower rank, and the client's calls begin with them
abbrev pub ClosedIsRanked : Client → Type 0
ClosedIsRanked c = (t : Table) → IsClosed c t → IsRanked (program_of c) (word_count c) (is_within c t) (rank c)

-- a well-formed state whose running registers lie where the table says is well-formed in the model's sense with such frames
abbrev pub WithinIsSound : Client → Type 0
WithinIsSound c = (t : Table) (s : State) → IsWellFormed c s → IsWithin t s → states.IsWellFormed (program_of c) (word_count c) (is_within c t) (state_of s)

-- a state that steps reach is such a state
abbrev pub ReachedIsWithin : Client → Type 0
ReachedIsWithin c = (t : Table) (s : State) (actors : List Actor) → IsClosed c t → Steps (step (program_of c)) (initial_of c) actors (state_of s) → IsWithin t s

-- the future has what the model says that thread i may still read and write
pub record HoldsFuture (c : Client) (t : Table) (s : State) (i place : ℕ) : Type 0 where
  pub reads : IsTrue (model.future_reads (program_of c) (table_view c t) (state_of s) i place) → IsTrue (future_reads c t s i place)
  pub writes : IsTrue (model.future_writes (program_of c) (table_view c t) (state_of s) i place) → IsTrue (future_writes c t s i place)

abbrev pub FuturesHold : Client → Type 0
FuturesHold c = (t : Table) (s : State) (i place : ℕ) → IsWellFormed c s → HoldsFuture c t s i place

-- each read and each drain of a thread in these labels is in the thread's future at the state
pub record AreForeseen (c : Client) (t : Table) (s : State) (ls : List Label) : Type 0 where
  pub reads : (i place : ℕ) → HasReadOf ls i place → IsTrue (future_reads c t s i place)
  pub drains : (i place : ℕ) → HasDrainOf ls i place → IsTrue (future_writes c t s i place)

-- over a closed table, so it is in every run of labels on from a well-formed state whose running registers lie where the table says, also one
-- that stops inside a locked instruction
abbrev pub RunsAreForeseen : Client → Type 0
RunsAreForeseen c =
    (t : Table) (s : State) (ls : List Label) (m : Machine Activation) → IsClosed c t → IsWellFormed c s → IsWithin t s → Run (program_of c) (machine_of (state_of s)) ls m → AreForeseen c t s ls
