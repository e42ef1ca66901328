-- What a thread may still read and write after a move it may read and write before it.
use Rattle.std.proofs.Common.{◌≡◌, ◌∙◌, ℕ, ◌==◌, ◌||◌, ◌⊎◌, inl, inr, Bool, true, false, List, [], ◌∷◌, map, Option, None, Some, slice_get, slice_index_or, refl, sym, ap, subst}
use Rattle.std.specs.Prelude.{IsTrue, bit_or, ◌^◌}
use Rattle.std.specs.List.{fold}
use Rattle.std.specs.Option.{option_map}
use Rattle.std.proofs.lemmas.Bool.{cases_eq, eq-eqb}
use Rattle.std.proofs.lemmas.Nat.Bits.{bit_at-pow_other, bit_at-zero}
use Rattle.tso_confluence.proofs.Ground.{IsSound, as_path, is_ranked, is_sound, table_laws}
use Rattle.tso_confluence.specs.Laws.{FuturesShrink, HasShrunk}
use Rattle.tso_confluence.specs.Stops.{HasOneStop}
use Rattle.tso_flow.specs.Calls.{kind_of}
use Rattle.tso_flow.specs.declared.location.ProcedureKind.{ProcedureKind}
use Rattle.tso_foot.proofs.AheadLemmas.{cell_reads_same, cell_writes_same}
use Rattle.tso_foot.proofs.BitLemmas.{has_array-or}
use Rattle.tso_foot.proofs.FutureLemmas.{calls_left-view}
use Rattle.tso_foot.proofs.WithinLemmas.{futures_hold}
use Rattle.tso_foot.specs.Ahead.{future_reads, future_writes}
use Rattle.tso_foot.specs.Closed.{items_of}
use Rattle.tso_foot.specs.Futures.{buffer_mask, calls_masks, calls_to_come, core_masks, future_if}
use Rattle.tso_foot.specs.Laws.{arrays_view, table_view}
use Rattle.tso_foot.specs.Masks.{array_mask, array_of, has_array, has_place, has_some, masks_at, no_masks, union}
use Rattle.tso_foot.specs.Within.{is_within}
use Rattle.tso_foot.specs.declared.masks.Masks.{Masks}
use Rattle.tso_foot.specs.declared.table.ArrayTable.{ArrayTable}
use Rattle.tso_foot.specs.declared.table.Table.{Table}
use Rattle.tso_foot.specs.declared.table.Table.TheVariants.{Arrays, Intervals}
use Rattle.tso_line.specs.declared.instruction.CallKind.{CallKind}
use Rattle.tso_line.specs.declared.instruction.CallKind.TheVariants as calls
use Rattle.tso_machine.specs.Activations.{Activation}
use Rattle.tso_machine.specs.Machines.{entry_view}
use Rattle.tso_machine.specs.Programs.{program_of, start_of}
use Rattle.tso_machine.specs.Soundness.{rank}
use Rattle.tso_machine.specs.declared.buffer.Entry.{Entry}
use Rattle.tso_model.proofs.Theorems.{steps_stay_well_formed}
use Rattle.tso_model.specs.Reduce.{Steps}
use Rattle.tso_model.specs.States as states
use Rattle.tso_model.specs.Steps as steps
use Rattle.tso_model.specs.Table as model
use Rattle.tso_model.specs.Table.{buffer_has, calls_left, core_has, some_call, thread_reads, thread_writes}
use Rattle.tso_move.specs.Runs.{IsMove}
use Rattle.tso_prog.specs.Views.{call_view}
use Rattle.tso_prog.specs.declared.client.Array.{Array}
use Rattle.tso_prog.specs.declared.client.Client.{Client}
use Rattle.tso_state.proofs.ViewLemmas.{slice_get-threads_view}
use Rattle.tso_state.specs.Views.{core_view, running_procedure, state_of, thread_view}
use Rattle.tso_state.specs.WellFormed.{word_count}
use Rattle.tso_state.specs.declared.actor.Actor.{Actor}
use Rattle.tso_state.specs.declared.state.Core.{Core}
use Rattle.tso_state.specs.declared.state.Core.TheVariants.{Idle, Running, Stopped}
use Rattle.tso_state.specs.declared.state.State.{State}
use Rattle.tso_state.specs.declared.state.Thread.{Thread}

-- ---- masks

or_cases : (x y : Bool) → (x || y) ≡ true → (x ≡ true) ⊎ (y ≡ true)
or_cases true y h = inl refl
or_cases false y h = inr h

or_first : (x y : Bool) → x ≡ true → (x || y) ≡ true
or_first true y h = refl
or_first false y h = absurd (let clash : false ≡ true = h in cc)

or_second : (x y : Bool) → y ≡ true → (x || y) ≡ true
or_second true y h = refl
or_second false y h = h

-- what is in a union is in one of the two
either_some : (a b : ℕ) (o : Option ℕ) → has_some (bit_or a b) o ≡ true → (has_some a o ≡ true) ⊎ (has_some b o ≡ true)
either_some a b None h = absurd (let clash : false ≡ true = h in cc)
either_some a b (Some k) h = or_cases (has_array a k) (has_array b k) (sym (has_array-or a b k) ∙ h)

either_place : (arrays : List Array) (a b place : ℕ) → has_place arrays (bit_or a b) place ≡ true → (has_place arrays a place ≡ true) ⊎ (has_place arrays b place ≡ true)
either_place arrays a b place h = either_some a b (array_of arrays place) h

none_some_has : (o : Option ℕ) → has_some 0 o ≡ true → ⊥
none_some_has None h = let clash : false ≡ true = h in cc
none_some_has (Some k) h = let z : has_array 0 k ≡ false = ap (λ n. n == 1) (bit_at-zero k) in let clash : true ≡ false = sym h ∙ z in cc

nowhere : (arrays : List Array) (place : ℕ) → has_place arrays 0 place ≡ true → ⊥
nowhere arrays place h = none_some_has (array_of arrays place) h

-- the mask of one array has no other
only_own : (o p : Option ℕ) → has_some (array_mask o) p ≡ true → o ≡ p
only_own None p h = absurd (none_some_has p h)
only_own (Some k) None h = absurd (let clash : false ≡ true = h in cc)
only_own (Some k) (Some j) h = elim (cases_eq j k) [
  | inl same ↦ ap Some (sym same)
  | inr other ↦ absurd (let z : has_array (2 ^ k) j ≡ false = ap (λ n. n == 1) (bit_at-pow_other k j other) in let clash : true ≡ false = sym h ∙ z in cc)
]

-- ---- one of the two masks of each item: `get` takes it

abbrev Joins : (Masks → ℕ) → Type 0
Joins get = (a b : Masks) → get (union a b) ≡ bit_or (get a) (get b)

abbrev said : Client → ArrayTable → (Masks → ℕ) → Activation → ℕ → Bool
said c t get a place = has_place c.arrays (get (masks_at (items_of t a.procedure) a.frame.pc)) place

either_mask : (c : Client) (get : Masks → ℕ) → Joins get → (a b : Masks) (place : ℕ) → has_place c.arrays (get (union a b)) place ≡ true → (has_place c.arrays (get a) place ≡ true) ⊎ (has_place c.arrays (get b) place ≡ true)
either_mask c get joins a b place h = either_place c.arrays (get a) (get b) place (ap (λ n. has_place c.arrays n place) (sym (joins a b)) ∙ h)

-- ---- calls to come

abbrev from_calls : ArrayTable → Masks → List CallKind → Masks
from_calls t masks ks = fold (λ (m : Masks) (k : CallKind). union m (masks_at (items_of t (kind_of k)) 0)) masks ks

starts : (c : Client) (t : ArrayTable) (get : Masks → ℕ) (k : CallKind) (place : ℕ) → said c t get (start_of c (call_view k)) place ≡ has_place c.arrays (get (masks_at (items_of t (kind_of k)) 0)) place
starts c t get (calls.Push v) place = refl
starts c t get calls.Pop place = refl

calls_said : (c : Client) (t : ArrayTable) (get : Masks → ℕ) → Joins get → (ks : List CallKind) (masks : Masks) (place : ℕ)
    → has_place c.arrays (get (from_calls t masks ks)) place ≡ true → (has_place c.arrays (get masks) place ≡ true) ⊎ (some_call (program_of c) (said c t get) (map call_view ks) place ≡ true)
calls_said c t get joins [] masks place h = inl h
calls_said c t get joins (k ∷ ks) masks place h =
    let own = masks_at (items_of t (kind_of k)) 0 in
    let first = said c t get (start_of c (call_view k)) place in
    let rest = some_call (program_of c) (said c t get) (map call_view ks) place in
    elim (calls_said c t get joins ks (union masks own) place h) [
      | inl before ↦ elim (either_mask c get joins masks own place before) [
        | inl x ↦ inl x
        | inr x ↦ inr (or_first first rest (starts c t get k place ∙ x))
      ]
      | inr later ↦ inr (or_second first rest later)
    ]

all_said : (c : Client) (t : ArrayTable) (get : Masks → ℕ) → Joins get → (get no_masks ≡ 0) → (ks : List CallKind) (place : ℕ)
    → has_place c.arrays (get (calls_masks t ks)) place ≡ true → some_call (program_of c) (said c t get) (map call_view ks) place ≡ true
all_said c t get joins none ks place h = elim (calls_said c t get joins ks no_masks place h) [
  | inl x ↦ absurd (nowhere c.arrays place (ap (λ n. has_place c.arrays n place) (sym none) ∙ x))
  | inr x ↦ x
]

-- ---- cores

core_said : (c : Client) (t : ArrayTable) (get : Masks → ℕ) → Joins get → (get no_masks ≡ 0) → (name : ProcedureKind) (ks : List CallKind) (core : Core) (place : ℕ)
    → has_place c.arrays (get (core_masks t name ks core)) place ≡ true → core_has (program_of c) (said c t get) (map call_view ks) (core_view name core) place ≡ true
core_said c t get joins none name ks Idle place h = all_said c t get joins none ks place h
core_said c t get joins none name ks (Running f) place h =
    let own = masks_at (items_of t name) f.pc in
    let first = has_place c.arrays (get own) place in
    let rest = some_call (program_of c) (said c t get) (map call_view ks) place in
    elim (either_mask c get joins own (calls_masks t ks) place h) [
      | inl x ↦ or_first first rest x
      | inr x ↦ or_second first rest (all_said c t get joins none ks place x)
    ]
core_said c t get joins none name ks Stopped place h = absurd (nowhere c.arrays place (ap (λ n. has_place c.arrays n place) (sym none) ∙ h))

-- ---- buffers

abbrev from_entries : List Array → ℕ → List Entry → ℕ
from_entries arrays mask entries = fold (λ (m : ℕ) (e : Entry). bit_or m (array_mask (array_of arrays e.place))) mask entries

-- of a test of places, that it holds of one of the same array
abbrev HoldsNear : List Array → (ℕ → Bool) → ℕ → Type 0
HoldsNear arrays test place = (q : ℕ) × (array_of arrays q ≡ array_of arrays place) × (test q ≡ true)

entries_said : (arrays : List Array) (entries : List Entry) (mask place : ℕ) → has_place arrays (from_entries arrays mask entries) place ≡ true
    → (has_place arrays mask place ≡ true) ⊎ HoldsNear arrays (buffer_has (map entry_view entries)) place
entries_said arrays [] mask place h = inl h
entries_said arrays (e ∷ rest) mask place h =
    let own = array_mask (array_of arrays e.place) in
    elim (entries_said arrays rest (bit_or mask own) place h) [
      | inl before ↦ elim (either_place arrays mask own place before) [
        | inl x ↦ inl x
        | inr x ↦ inr (e.place, only_own (array_of arrays e.place) (array_of arrays place) x, or_first (e.place == e.place) (buffer_has (map entry_view rest) e.place) (eq-eqb e.place e.place refl))
      ]
      | inr (q, same, has) ↦ inr (q, same, or_second (e.place == q) (buffer_has (map entry_view rest) q) has)
    ]

-- ---- threads, by arrays

module _ (c : Client) (t : ArrayTable) (s : State) (i : ℕ) where
  abbrev name : ProcedureKind
  name = running_procedure (slice_index_or s.history i [])

  core_here : (get : Masks → ℕ) → Joins get → (get no_masks ≡ 0) → (th : Thread) (place : ℕ) → has_place c.arrays (get (core_masks t name (calls_to_come c s i) th.core)) place ≡ true
      → core_has (program_of c) (said c t get) (calls_left (program_of c) (state_of s) i) (core_view name th.core) place ≡ true
  core_here get joins none th place h =
      ap (λ ks. core_has (program_of c) (said c t get) ks (core_view name th.core) place) (calls_left-view c s i) ∙ core_said c t get joins none name (calls_to_come c s i) th.core place h

  reads_here : (o : Option Thread) (place : ℕ) → has_place c.arrays (future_if c t s i o).reads place ≡ true
      → thread_reads (program_of c) (arrays_view c t) (calls_left (program_of c) (state_of s) i) (option_map (thread_view name) o) place ≡ true
  reads_here None place h = absurd (nowhere c.arrays place h)
  reads_here (Some th) place h = elim (either_place c.arrays (core_masks t name (calls_to_come c s i) th.core).reads 0 place h) [
    | inl x ↦ core_here (λ (m : Masks). m.reads) (λ a b. refl) refl th place x
    | inr x ↦ absurd (nowhere c.arrays place x)
  ]

  writes_here : (o : Option Thread) (place : ℕ) → has_place c.arrays (future_if c t s i o).writes place ≡ true
      → HoldsNear c.arrays (thread_writes (program_of c) (arrays_view c t) (calls_left (program_of c) (state_of s) i) (option_map (thread_view name) o)) place
  writes_here None place h = absurd (nowhere c.arrays place h)
  writes_here (Some th) place h =
      let core = core_masks t name (calls_to_come c s i) th.core in
      let by_core : ℕ → Bool = core_has (program_of c) (arrays_view c t).writes (calls_left (program_of c) (state_of s) i) (core_view name th.core) in
      let by_buffer : ℕ → Bool = buffer_has (map entry_view th.buffer) in
      elim (either_place c.arrays core.writes (buffer_mask c.arrays th.buffer) place h) [
        | inl x ↦ (place, refl, or_first (by_core place) (by_buffer place) (core_here (λ (m : Masks). m.writes) (λ a b. refl) refl th place x))
        | inr x ↦ elim (entries_said c.arrays th.buffer 0 place x) [
          | inl none ↦ absurd (nowhere c.arrays place none)
          | inr (q, same, has) ↦ (q, same, or_second (by_core q) (by_buffer q) has)
        ]
      ]

  reads_there : (place : ℕ) → future_reads c (Arrays t) s i place ≡ true → model.future_reads (program_of c) (arrays_view c t) (state_of s) i place ≡ true
  reads_there place h =
      ap (λ o. thread_reads (program_of c) (arrays_view c t) (calls_left (program_of c) (state_of s) i) o place) (slice_get-threads_view s.history s.threads i) ∙ reads_here (slice_get s.threads i) place h

  -- a buffered entry stands for its whole array
  writes_there : (place : ℕ) → future_writes c (Arrays t) s i place ≡ true → HoldsNear c.arrays (model.future_writes (program_of c) (arrays_view c t) (state_of s) i) place
  writes_there place h =
      let (q, same, has) = writes_here (slice_get s.threads i) place h in
      (q, same, ap (λ o. thread_writes (program_of c) (arrays_view c t) (calls_left (program_of c) (state_of s) i) o q) (slice_get-threads_view s.history s.threads i) ∙ has)

-- ---- moves

module _ (c : Client) (own : ArrayTable) (t : Table) (s : State) (h : HasOneStop c own t s) where
  next_sound : (m m' : states.State Activation) (a : steps.Actor) → IsSound c t m → steps.step (program_of c) m a ≡ Some m' → IsSound c t m'
  next_sound m m' a w e = steps_stay_well_formed Activation (program_of c) (word_count c) (is_within c t) (rank c) (is_ranked c own t s h) m m' a w e

  reads_back : (actors : List steps.Actor) (m m' : states.State Activation) (j place : ℕ) → IsSound c t m → Steps (steps.step (program_of c)) m actors m'
      → IsTrue (model.future_reads (program_of c) (table_view c t) m' j place) → IsTrue (model.future_reads (program_of c) (table_view c t) m j place)
  reads_back [] m m' j place w e has = subst (λ x. IsTrue (model.future_reads (program_of c) (table_view c t) x j place)) (sym e) has
  reads_back (a ∷ rest) m m' j place w (next, one, more) has =
      (table_laws c own t s h).reads_shrink m next a j place w one (reads_back rest next m' j place (next_sound m next a w one) more has)

  writes_back : (actors : List steps.Actor) (m m' : states.State Activation) (j place : ℕ) → IsSound c t m → Steps (steps.step (program_of c)) m actors m'
      → IsTrue (model.future_writes (program_of c) (table_view c t) m' j place) → IsTrue (model.future_writes (program_of c) (table_view c t) m j place)
  writes_back [] m m' j place w e has = subst (λ x. IsTrue (model.future_writes (program_of c) (table_view c t) x j place)) (sym e) has
  writes_back (a ∷ rest) m m' j place w (next, one, more) has =
      (table_laws c own t s h).writes_shrink m next a j place w one (writes_back rest next m' j place (next_sound m next a w one) more has)

  module _ (s' : State) (a : Actor) (move : IsMove c own s a s') (j place : ℕ) where
    model_reads : IsTrue (model.future_reads (program_of c) (table_view c t) (state_of s') j place) → IsTrue (model.future_reads (program_of c) (table_view c t) (state_of s) j place)
    model_reads has = let (actors, path) = as_path c own s s' a move in reads_back actors (state_of s) (state_of s') j place (is_sound c own t s h) path has

    model_writes : IsTrue (model.future_writes (program_of c) (table_view c t) (state_of s') j place) → IsTrue (model.future_writes (program_of c) (table_view c t) (state_of s) j place)
    model_writes has = let (actors, path) = as_path c own s s' a move in writes_back actors (state_of s) (state_of s') j place (is_sound c own t s h) path has

-- a place of the same array is written too
near_written : (c : Client) (t : ArrayTable) (s : State) (j q place : ℕ) → array_of c.arrays q ≡ array_of c.arrays place → future_writes c (Arrays t) s j q ≡ true → future_writes c (Arrays t) s j place ≡ true
near_written c t s j q place same has = ap (has_some _) (sym same) ∙ has

shrunk : (c : Client) (own : ArrayTable) (t : Table) (s s' : State) (a : Actor) (j place : ℕ) → HasOneStop c own t s → IsMove c own s a s' → HasShrunk c t s s' j place
shrunk c own (Arrays t) s s' a j place h move = record {
  reads = λ has. (futures_hold c (Arrays t) s j place h.plausible.well_formed).reads (model_reads c own (Arrays t) s h s' a move j place (reads_there c t s' j place has));
  writes = λ has.
      let (q, same, there) = writes_there c t s' j place has in
      near_written c t s j q place same ((futures_hold c (Arrays t) s j q h.plausible.well_formed).writes (model_writes c own (Arrays t) s h s' a move j q there));
}
shrunk c own (Intervals t) s s' a j place h move = record {
  reads = λ has. (futures_hold c (Intervals t) s j place h.plausible.well_formed).reads (model_reads c own (Intervals t) s h s' a move j place (sym (cell_reads_same c t s' j place) ∙ has));
  writes = λ has. (futures_hold c (Intervals t) s j place h.plausible.well_formed).writes (model_writes c own (Intervals t) s h s' a move j place (sym (cell_writes_same c t s' j place) ∙ has));
}

pub futures_shrink : (c : Client) → FuturesShrink c
futures_shrink c own t s s' a j place h move = shrunk c own t s s' a j place h move
