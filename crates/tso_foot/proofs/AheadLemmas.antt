-- The cells of a thread's future have what the model says, by a table of intervals.
use Rattle.std.proofs.Common.{◌≡◌, ◌∙◌, ℕ, Bool, true, false, ◌==◌, ◌||◌, List, [], ◌∷◌, map, Option, None, Some, slice_get, slice_index_or, refl, sym, ap}
use Rattle.std.specs.Option.{option_map}
use Rattle.tso_cells.specs.Laws as cells
use Rattle.tso_cells.specs.declared.table.IntervalTable.{IntervalTable}
use Rattle.tso_flow.specs.declared.location.ProcedureKind.{ProcedureKind}
use Rattle.tso_flow.specs.declared.location.ProcedureKind.TheVariants as procedures
use Rattle.tso_foot.proofs.FutureLemmas.{calls_left-view}
use Rattle.tso_foot.specs.Ahead as ahead
use Rattle.tso_foot.specs.Ahead.{calls_have, future_reads, future_writes, is_buffered, item_has, thread_has_if}
use Rattle.tso_foot.specs.Futures.{calls_to_come}
use Rattle.tso_foot.specs.Laws.{HoldsFuture}
use Rattle.tso_foot.specs.declared.ahead.Access.{Access}
use Rattle.tso_foot.specs.declared.ahead.Access.TheVariants.{Read, Write}
use Rattle.tso_foot.specs.declared.table.Table.TheVariants.{Intervals}
use Rattle.tso_line.specs.declared.instruction.CallKind.{CallKind}
use Rattle.tso_line.specs.declared.instruction.CallKind.TheVariants as calls
use Rattle.tso_machine.specs.Activations.{Activation}
use Rattle.tso_machine.specs.Machines.{entry_view}
use Rattle.tso_machine.specs.Programs.{program_of}
use Rattle.tso_machine.specs.declared.buffer.Entry.{Entry}
use Rattle.tso_model.specs.Programs as programs
use Rattle.tso_model.specs.Table as model
use Rattle.tso_model.specs.Table.{buffer_has, calls_left, core_has, some_call, thread_reads, thread_writes}
use Rattle.tso_prog.specs.Views.{call_view}
use Rattle.tso_prog.specs.declared.client.Client.{Client}
use Rattle.tso_state.proofs.ViewLemmas.{slice_get-threads_view}
use Rattle.tso_state.specs.Views.{core_view, running_procedure, state_of, thread_view}
use Rattle.tso_state.specs.declared.state.Core.{Core}
use Rattle.tso_state.specs.declared.state.Core.TheVariants.{Idle, Running, Stopped}
use Rattle.tso_state.specs.declared.state.State.{State}
use Rattle.tso_state.specs.declared.state.Thread.{Thread}

-- what the model's table says of a running call, of reads or of writes
abbrev said : Access → Client → IntervalTable → Activation → ℕ → Bool
said access c t a place = item_has access c.arrays t a.procedure a.frame.pc place

calls_same : (access : Access) (c : Client) (t : IntervalTable) (ks : List CallKind) (place : ℕ)
    → some_call (program_of c) (said access c t) (map call_view ks) place ≡ calls_have access c.arrays t ks place
calls_same access c t [] place = refl
calls_same access c t (calls.Push v ∷ ks) place = ap (λ x. item_has access c.arrays t procedures.Push 0 place || x) (calls_same access c t ks place)
calls_same access c t (calls.Pop ∷ ks) place = ap (λ x. item_has access c.arrays t procedures.Pop 0 place || x) (calls_same access c t ks place)

core_same : (access : Access) (c : Client) (t : IntervalTable) (name : ProcedureKind) (ks : List CallKind) (core : Core) (place : ℕ)
    → core_has (program_of c) (said access c t) (map call_view ks) (core_view name core) place ≡ ahead.core_has access c.arrays t name ks core place
core_same access c t name ks Idle place = calls_same access c t ks place
core_same access c t name ks (Running f) place = ap (λ x. item_has access c.arrays t name f.pc place || x) (calls_same access c t ks place)
core_same access c t name ks Stopped place = refl

or_none : (x : Bool) → (x || false) ≡ x
or_none true = refl
or_none false = refl

buffer_same : (entries : List Entry) (place : ℕ) → buffer_has (map entry_view entries) place ≡ is_buffered entries place
buffer_same [] place = refl
buffer_same (e ∷ rest) place = ap (λ x. (e.place == place) || x) (buffer_same rest place)

module _ (c : Client) (t : IntervalTable) (s : State) (i place : ℕ) where
  abbrev name : ProcedureKind
  name = running_procedure (slice_index_or s.history i [])

  abbrev left : List programs.CallKind
  left = calls_left (program_of c) (state_of s) i

  core_is : (access : Access) (th : Thread) → core_has (program_of c) (said access c t) left (core_view name th.core) place
      ≡ ahead.core_has access c.arrays t name (calls_to_come c s i) th.core place
  core_is access th =
      ap (λ ks. core_has (program_of c) (said access c t) ks (core_view name th.core) place) (calls_left-view c s i)
      ∙ core_same access c t name (calls_to_come c s i) th.core place

  reads_same : (o : Option Thread) → thread_has_if Read c t s i o place ≡ thread_reads (program_of c) (cells.table_view c t) left (option_map (thread_view name) o) place
  reads_same None = refl
  reads_same (Some th) = or_none (ahead.core_has Read c.arrays t name (calls_to_come c s i) th.core place) ∙ sym (core_is Read th)

  writes_same : (o : Option Thread) → thread_has_if Write c t s i o place ≡ thread_writes (program_of c) (cells.table_view c t) left (option_map (thread_view name) o) place
  writes_same None = refl
  writes_same (Some th) =
      sym (ap (λ x. x || buffer_has (map entry_view th.buffer) place) (core_is Write th) ∙ ap (λ x. ahead.core_has Write c.arrays t name (calls_to_come c s i) th.core place || x) (buffer_same th.buffer place))

  -- what is said by cells is what the model says
  pub cell_reads_same : future_reads c (Intervals t) s i place ≡ model.future_reads (program_of c) (cells.table_view c t) (state_of s) i place
  cell_reads_same = reads_same (slice_get s.threads i) ∙ ap (λ o. thread_reads (program_of c) (cells.table_view c t) left o place) (sym (slice_get-threads_view s.history s.threads i))

  pub cell_writes_same : future_writes c (Intervals t) s i place ≡ model.future_writes (program_of c) (cells.table_view c t) (state_of s) i place
  cell_writes_same = writes_same (slice_get s.threads i) ∙ ap (λ o. thread_writes (program_of c) (cells.table_view c t) left o place) (sym (slice_get-threads_view s.history s.threads i))

  pub cell_futures_hold : HoldsFuture c (Intervals t) s i place
  cell_futures_hold = record { reads = λ h. cell_reads_same ∙ h; writes = λ h. cell_writes_same ∙ h }
