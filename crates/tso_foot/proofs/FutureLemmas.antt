-- The masks of a thread's future have what the model says, by a table of arrays.
use Rattle.std.proofs.Common.{◌≡◌, ◌∙◌, ℕ, suc, zero, ◌<◌, Bool, true, ◌==◌, List, [], ◌∷◌, length, map, drop, Option, None, Some, slice_get, slice_index_or, refl, sym, ap, arith}
use Rattle.std.specs.Prelude.{bit_or}
use Rattle.std.specs.List.{fold, sum_by}
use Rattle.std.specs.Option.{option_map}
use Rattle.std.proofs.lemmas.Bool.{eqb-true}
use Rattle.std.proofs.lemmas.List.{drop-map}
use Rattle.std.proofs.lemmas.List.Concat.{length-flat_map}
use Rattle.tso_flow.specs.Calls.{kind_of}
use Rattle.tso_flow.specs.declared.location.ProcedureKind.{ProcedureKind}
use Rattle.tso_foot.proofs.BitLemmas.{or_either}
use Rattle.tso_foot.proofs.MaskLemmas.{left_place, own_array, right_place, some_array}
use Rattle.tso_foot.specs.Closed.{items_of}
use Rattle.tso_foot.specs.Futures.{buffer_mask, calls_masks, calls_to_come, core_masks, future_if}
use Rattle.tso_foot.specs.Laws.{HoldsFuture, arrays_view}
use Rattle.tso_foot.specs.declared.table.Table.TheVariants.{Arrays}
use Rattle.tso_foot.specs.Masks.{array_mask, array_of, has_place, masks_at, no_masks, union}
use Rattle.tso_foot.specs.declared.masks.Masks.{Masks}
use Rattle.tso_foot.specs.declared.table.ArrayTable.{ArrayTable}
use Rattle.tso_line.specs.declared.instruction.CallKind.{CallKind}
use Rattle.tso_line.specs.declared.instruction.CallKind.TheVariants as calls
use Rattle.tso_machine.proofs.CallLists.{calls_of_thread}
use Rattle.tso_machine.specs.Activations.{Activation}
use Rattle.tso_machine.specs.Machines.{entry_view}
use Rattle.tso_machine.specs.Programs.{calls_in, calls_of, program_of, start_of}
use Rattle.tso_machine.specs.declared.buffer.Entry.{Entry}
use Rattle.tso_model.specs.Programs as programs
use Rattle.tso_model.specs.Table.{buffer_has, calls_left, core_has, some_call, thread_reads, thread_writes}
use Rattle.tso_prog.specs.Views.{call_view}
use Rattle.tso_prog.specs.declared.client.Array.{Array}
use Rattle.tso_prog.specs.declared.client.Client.{Client}
use Rattle.tso_state.proofs.ViewLemmas.{begun_by-state_of, slice_get-threads_view}
use Rattle.tso_state.specs.Views.{core_view, running_procedure, state_of, thread_view}
use Rattle.tso_state.specs.WellFormed.{IsWellFormed, word_count}
use Rattle.tso_state.specs.declared.state.Core.{Core}
use Rattle.tso_state.specs.declared.state.Core.TheVariants.{Idle, Running, Stopped}
use Rattle.tso_state.specs.declared.state.State.{State}
use Rattle.tso_state.specs.declared.state.Thread.{Thread}

-- ---- one of the two masks of each item: `get` takes it

abbrev Joins : (Masks → ℕ) → Type 0
Joins get = (a b : Masks) → get (union a b) ≡ bit_or (get a) (get b)

-- what the model's table says of a running call, of one mask
abbrev said : Client → ArrayTable → (Masks → ℕ) → Activation → ℕ → Bool
said c t get a place = has_place c.arrays (get (masks_at (items_of t a.procedure) a.frame.pc)) place

has_left : (c : Client) (get : Masks → ℕ) → Joins get → (a b : Masks) (place : ℕ) → has_place c.arrays (get a) place ≡ true → has_place c.arrays (get (union a b)) place ≡ true
has_left c get joins a b place h = ap (λ n. has_place c.arrays n place) (joins a b) ∙ left_place c.arrays (get a) (get b) place h

has_right : (c : Client) (get : Masks → ℕ) → Joins get → (a b : Masks) (place : ℕ) → has_place c.arrays (get b) place ≡ true → has_place c.arrays (get (union a b)) place ≡ true
has_right c get joins a b place h = ap (λ n. has_place c.arrays n place) (joins a b) ∙ right_place c.arrays (get a) (get b) place h

-- ---- calls to come

abbrev from_calls : ArrayTable → Masks → List CallKind → Masks
from_calls t masks ks = fold (λ (m : Masks) (k : CallKind). union m (masks_at (items_of t (kind_of k)) 0)) masks ks

calls_keep : (c : Client) (t : ArrayTable) (get : Masks → ℕ) → Joins get → (ks : List CallKind) (masks : Masks) (place : ℕ)
    → has_place c.arrays (get masks) place ≡ true → has_place c.arrays (get (from_calls t masks ks)) place ≡ true
calls_keep c t get joins [] masks place h = h
calls_keep c t get joins (k ∷ ks) masks place h =
    calls_keep c t get joins ks (union masks (masks_at (items_of t (kind_of k)) 0)) place (has_left c get joins masks (masks_at (items_of t (kind_of k)) 0) place h)

starts : (c : Client) (t : ArrayTable) (get : Masks → ℕ) (k : CallKind) (place : ℕ) → said c t get (start_of c (call_view k)) place ≡ has_place c.arrays (get (masks_at (items_of t (kind_of k)) 0)) place
starts c t get (calls.Push v) place = refl
starts c t get calls.Pop place = refl

calls_have : (c : Client) (t : ArrayTable) (get : Masks → ℕ) → Joins get → (ks : List CallKind) (masks : Masks) (place : ℕ)
    → some_call (program_of c) (said c t get) (map call_view ks) place ≡ true → has_place c.arrays (get (from_calls t masks ks)) place ≡ true
calls_have c t get joins [] masks place h = absurd cc
calls_have c t get joins (k ∷ ks) masks place h =
    let own = masks_at (items_of t (kind_of k)) 0 in
    or_either (said c t get (start_of c (call_view k)) place) (some_call (program_of c) (said c t get) (map call_view ks) place) _
    (λ e. calls_keep c t get joins ks (union masks own) place (has_right c get joins masks own place (sym (starts c t get k place) ∙ e)))
    (λ e. calls_have c t get joins ks (union masks own) place e) h

-- what some of these calls may write from its start on is in their masks
pub calls_may_write : (c : Client) (t : ArrayTable) (ks : List CallKind) (place : ℕ)
    → some_call (program_of c) (arrays_view c t).writes (map call_view ks) place ≡ true → has_place c.arrays (calls_masks t ks).writes place ≡ true
calls_may_write c t ks place h = calls_have c t (λ (m : Masks). m.writes) (λ a b. refl) ks no_masks place h

-- ---- cores

core_has-masks : (c : Client) (t : ArrayTable) (get : Masks → ℕ) → Joins get → (name : ProcedureKind) (ks : List CallKind) (core : Core) (place : ℕ)
    → core_has (program_of c) (said c t get) (map call_view ks) (core_view name core) place ≡ true → has_place c.arrays (get (core_masks t name ks core)) place ≡ true
core_has-masks c t get joins name ks Idle place h = calls_have c t get joins ks no_masks place h
core_has-masks c t get joins name ks (Running f) place h =
    let own = masks_at (items_of t name) f.pc in
    or_either (has_place c.arrays (get own) place) (some_call (program_of c) (said c t get) (map call_view ks) place) _
    (λ e. has_left c get joins own (calls_masks t ks) place e)
    (λ e. has_right c get joins own (calls_masks t ks) place (calls_have c t get joins ks no_masks place e)) h
core_has-masks c t get joins name ks Stopped place h = absurd cc

-- ---- buffers

abbrev from_entries : List Array → ℕ → List Entry → ℕ
from_entries arrays mask entries = fold (λ (m : ℕ) (e : Entry). bit_or m (array_mask (array_of arrays e.place))) mask entries

entries_keep : (arrays : List Array) (entries : List Entry) (mask place : ℕ) → has_place arrays mask place ≡ true → has_place arrays (from_entries arrays mask entries) place ≡ true
entries_keep arrays [] mask place h = h
entries_keep arrays (e ∷ rest) mask place h =
    entries_keep arrays rest (bit_or mask (array_mask (array_of arrays e.place))) place (left_place arrays mask (array_mask (array_of arrays e.place)) place h)

-- each entry's place is one of memory
abbrev AreInside : List Array → List Entry → Type 0
AreInside arrays entries = (n : ℕ) (e : Entry) → slice_get entries n ≡ Some e → e.place < sum_by (λ (x : Array). length x.words) arrays

entry_has : (arrays : List Array) (e : Entry) → e.place < sum_by (λ (x : Array). length x.words) arrays → has_place arrays (array_mask (array_of arrays e.place)) e.place ≡ true
entry_has arrays e lt =
    let (k, is) = some_array arrays e.place lt in
    ap (λ o. has_place arrays (array_mask o) e.place) is ∙ own_array arrays e.place k is

entries_have : (arrays : List Array) (entries : List Entry) (mask place : ℕ) → AreInside arrays entries → buffer_has (map entry_view entries) place ≡ true
    → has_place arrays (from_entries arrays mask entries) place ≡ true
entries_have arrays [] mask place inside h = absurd cc
entries_have arrays (e ∷ rest) mask place inside h =
    let own = array_mask (array_of arrays e.place) in
    or_either (e.place == place) (buffer_has (map entry_view rest) place) _
    (λ q. entries_keep arrays rest (bit_or mask own) place (right_place arrays mask own place
    (ap (λ p. has_place arrays own p) (sym (eqb-true e.place place q)) ∙ entry_has arrays e (inside zero e refl))))
    (λ q. entries_have arrays rest (bit_or mask own) place (λ n x at. inside (suc n) x at) q) h

-- ---- threads

abbrev thread_future : Client → ArrayTable → State → ℕ → Thread → Masks
thread_future c t s i th = core_masks t (running_procedure (slice_index_or s.history i [])) (calls_to_come c s i) th.core

pub calls_left-view : (c : Client) (s : State) (i : ℕ) → calls_left (program_of c) (state_of s) i ≡ map call_view (calls_to_come c s i)
calls_left-view c s i =
    ap (λ n. drop n (slice_index_or (calls_of c) i [])) (begun_by-state_of s i)
    ∙ ap (λ (ks : List programs.CallKind). drop (length (slice_index_or s.history i [])) ks) (calls_of_thread c.threads c.prologue i)
    ∙ drop-map call_view (length (slice_index_or s.history i [])) (calls_in c.threads c.prologue i)

-- of one mask: what the core of thread i may still do
core_said : (c : Client) (t : ArrayTable) (get : Masks → ℕ) → Joins get → (s : State) (i : ℕ) (th : Thread) (place : ℕ)
    → core_has (program_of c) (said c t get) (calls_left (program_of c) (state_of s) i) (core_view (running_procedure (slice_index_or s.history i [])) th.core) place ≡ true
    → has_place c.arrays (get (thread_future c t s i th)) place ≡ true
core_said c t get joins s i th place h =
    let name = running_procedure (slice_index_or s.history i []) in
    core_has-masks c t get joins name (calls_to_come c s i) th.core place
    (ap (λ ks. core_has (program_of c) (said c t get) ks (core_view name th.core) place) (sym (calls_left-view c s i)) ∙ h)

reads_join : Joins (λ (m : Masks). m.reads)
reads_join a b = refl

writes_join : Joins (λ (m : Masks). m.writes)
writes_join a b = refl

words_of : (c : Client) → word_count c ≡ sum_by (λ (x : Array). length x.words) c.arrays
words_of c = length-flat_map (λ (x : Array). x.words) c.arrays

inside_memory : (c : Client) (s : State) (i : ℕ) (th : Thread) → IsWellFormed c s → slice_get s.threads i ≡ Some th → AreInside c.arrays th.buffer
inside_memory c s i th w there n e at = let lt = w.sizes.places i n th e there at in omega (arith, lt, words_of c)

thread_holds : (c : Client) (t : ArrayTable) (s : State) (i place : ℕ) (o : Option Thread) → IsWellFormed c s → slice_get s.threads i ≡ o
    → (thread_reads (program_of c) (arrays_view c t) (calls_left (program_of c) (state_of s) i) (option_map (thread_view (running_procedure (slice_index_or s.history i []))) o) place ≡ true
    → has_place c.arrays (future_if c t s i o).reads place ≡ true)
    × (thread_writes (program_of c) (arrays_view c t) (calls_left (program_of c) (state_of s) i) (option_map (thread_view (running_procedure (slice_index_or s.history i []))) o) place ≡ true
    → has_place c.arrays (future_if c t s i o).writes place ≡ true)
thread_holds c t s i place None w there = (λ h. absurd cc, λ h. absurd cc)
thread_holds c t s i place (Some th) w there =
    let name = running_procedure (slice_index_or s.history i []) in
    let core = thread_future c t s i th in (
      λ h. left_place c.arrays core.reads 0 place (core_said c t (λ m. m.reads) reads_join s i th place h),
      λ h. or_either (core_has (program_of c) (said c t (λ m. m.writes)) (calls_left (program_of c) (state_of s) i) (core_view name th.core) place)
          (buffer_has (map entry_view th.buffer) place) _
          (λ e. left_place c.arrays core.writes (buffer_mask c.arrays th.buffer) place (core_said c t (λ m. m.writes) writes_join s i th place e))
          (λ e. right_place c.arrays core.writes (buffer_mask c.arrays th.buffer) place (entries_have c.arrays th.buffer 0 place (inside_memory c s i th w there) e)) h,
    )

pub array_futures_hold : (c : Client) (t : ArrayTable) (s : State) (i place : ℕ) → IsWellFormed c s → HoldsFuture c (Arrays t) s i place
array_futures_hold c t s i place w =
    let both = thread_holds c t s i place (slice_get s.threads i) w refl in
    let view = slice_get-threads_view s.history s.threads i in
    record {
      reads = λ h. both.0 (ap (λ o. thread_reads (program_of c) (arrays_view c t) (calls_left (program_of c) (state_of s) i) o place) (sym view) ∙ h);
      writes = λ h. both.1 (ap (λ o. thread_writes (program_of c) (arrays_view c t) (calls_left (program_of c) (state_of s) i) o place) (sym view) ∙ h);
    }
