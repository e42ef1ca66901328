-- A table of intervals that names no array but those of a table of arrays foresees no more.
use Rattle.std.proofs.Common.{◌≡◌, ◌∙◌, ℕ, zero, suc, ◌+◌, ◌-◌, ◌<◌, ◌≤◌, Bool, true, nat_le, nat_lt, List, [], ◌∷◌, length, map, Option, None, Some, slice_get, inl, inr, ℤ, pos, refl, sym, ap, subst, arith}
use Rattle.std.specs.Option.{option_map}
use Rattle.std.proofs.lemmas.Bool.{and_parts, lt-ltb, or_left, or_right}
use Rattle.std.proofs.lemmas.Bool.Decides.{nat_tests}
use Rattle.std.proofs.lemmas.Option.{none-some, slice_get_within}
use Rattle.tso_cells.specs.Cells.{has_cell, is_cell, size_of}
use Rattle.tso_cells.specs.Inductive.{AreCells, IsInArray, IsInductive, IsListInductive}
use Rattle.tso_cells.specs.Inductive as inductive
use Rattle.tso_cells.specs.Laws as cells
use Rattle.tso_cells.specs.declared.table.Cells.{Cells}
use Rattle.tso_cells.specs.declared.table.IntervalTable.{IntervalTable}
use Rattle.tso_cells.specs.declared.table.Item.{Item}
use Rattle.tso_flow.specs.declared.location.ProcedureKind.{ProcedureKind}
use Rattle.tso_flow.specs.declared.location.ProcedureKind.TheVariants as procedures
use Rattle.tso_foot.proofs.AheadLemmas.{cell_reads_same, cell_writes_same}
use Rattle.tso_foot.proofs.BitLemmas.{or_either}
use Rattle.tso_foot.proofs.FutureLemmas.{array_futures_hold}
use Rattle.tso_foot.proofs.MaskLemmas.{array_of-place}
use Rattle.tso_foot.specs.Ahead.{cells_at}
use Rattle.tso_foot.specs.Laws.{arrays_view}
use Rattle.tso_foot.specs.Masks.{array_of, has_array, has_place, has_some}
use Rattle.tso_foot.specs.Narrower.{AreOf, IsNarrower, NarrowerForeseesNoMore}
use Rattle.tso_foot.specs.declared.ahead.Access.{Access}
use Rattle.tso_foot.specs.declared.ahead.Access.TheVariants.{Read, Write}
use Rattle.tso_foot.specs.declared.table.ArrayTable.{ArrayTable}
use Rattle.tso_machine.specs.Activations.{Activation}
use Rattle.tso_machine.specs.Instructions.{instructions_of}
use Rattle.tso_machine.specs.Places.{first_place, place_in, place_of}
use Rattle.tso_machine.specs.Programs.{program_of}
use Rattle.tso_model.specs.Programs.{CallKind}
use Rattle.tso_model.specs.States.{CompactCore, CompactThread, Executing, Halted, Resting}
use Rattle.tso_model.specs.Table.{Table, buffer_has, calls_left, core_has, future_reads, future_writes, some_call, thread_reads, thread_writes}
use Rattle.tso_prog.specs.declared.client.Array.{Array}
use Rattle.tso_prog.specs.declared.client.Client.{Client}
use Rattle.tso_state.specs.Views.{state_of}
use Rattle.tso_state.specs.WellFormed.{IsWellFormed}
use Rattle.tso_state.specs.declared.state.State.{State}

-- ---- cells inside an array have its places

module _ (arrays : List Array) (x : Cells) (place : ℕ) where
  at_place : (o : Option Array) → x.hi < size_of o → first_place arrays x.array + x.lo ≤ place → place ≤ first_place arrays x.array + x.hi
      → place_in o (first_place arrays x.array) (pos (place - first_place arrays x.array)) ≡ Some place
  at_place None lt from to = absurd (omega (arith, lt))
  at_place (Some a) lt from to =
      let k = place - first_place arrays x.array in
      let back : first_place arrays x.array + k ≡ place = omega (arith, from) in
      rw (lt-ltb k (length a.words) (omega (arith, lt, from, to))) (ap Some back)

  array_is : IsInArray arrays x → is_cell arrays x place ≡ true → array_of arrays place ≡ Some x.array
  array_is (le, lt) e =
      let (from, to) = and_parts (nat_le (first_place arrays x.array + x.lo) place) (nat_le place (first_place arrays x.array + x.hi)) e in
      array_of-place arrays x.array place (pos (place - first_place arrays x.array))
      (at_place (slice_get arrays x.array) lt (grind (arith, nat_tests, from)) (grind (arith, nat_tests, to)))

  one_in : (mask : ℕ) → IsInArray arrays x → has_array mask x.array ≡ true → is_cell arrays x place ≡ true → has_place arrays mask place ≡ true
  one_in mask inside has e = ap (has_some mask) (array_is inside e) ∙ has

cells_in : (arrays : List Array) (list : List Cells) (mask place : ℕ) → ((n : ℕ) (x : Cells) → slice_get list n ≡ Some x → IsInArray arrays x) → AreOf list mask
    → has_cell arrays list place ≡ true → has_place arrays mask place ≡ true
cells_in arrays [] mask place inside of h = absurd cc
cells_in arrays (x ∷ rest) mask place inside of h =
    or_either (is_cell arrays x place) (has_cell arrays rest place) _
    (λ e. one_in arrays x place mask (inside zero x refl) (of zero x refl) e)
    (λ e. cells_in arrays rest mask place (λ n y at. inside (suc n) y at) (λ n y at. of (suc n) y at) e) h

-- ---- more at each frame is more at each thread

abbrev IsUnder : (Activation → ℕ → Bool) → (Activation → ℕ → Bool) → Type 0
IsUnder f g = (a : Activation) (place : ℕ) → f a place ≡ true → g a place ≡ true

module _ (c : Client) (f g : Activation → ℕ → Bool) (under : IsUnder f g) (place : ℕ) where
  calls_more : (ks : List CallKind) → some_call (program_of c) f ks place ≡ true → some_call (program_of c) g ks place ≡ true
  calls_more [] h = absurd cc
  calls_more (k ∷ ks) h =
      let first = (program_of c).start k in
      or_either (f first place) (some_call (program_of c) f ks place) _
      (λ e. or_left (g first place) (some_call (program_of c) g ks place) (under first place e))
      (λ e. or_right (g first place) (some_call (program_of c) g ks place) (calls_more ks e)) h

  core_more : (ks : List CallKind) (core : CompactCore Activation) → core_has (program_of c) f ks core place ≡ true → core_has (program_of c) g ks core place ≡ true
  core_more ks Resting h = calls_more ks h
  core_more ks (Executing a) h =
      or_either (f a place) (some_call (program_of c) f ks place) _
      (λ e. or_left (g a place) (some_call (program_of c) g ks place) (under a place e))
      (λ e. or_right (g a place) (some_call (program_of c) g ks place) (calls_more ks e)) h
  core_more ks Halted h = absurd cc

module _ (c : Client) (t u : Table Activation) (place : ℕ) where
  reads_more : IsUnder t.reads u.reads → (ks : List CallKind) (o : Option (CompactThread Activation)) → thread_reads (program_of c) t ks o place ≡ true → thread_reads (program_of c) u ks o place ≡ true
  reads_more under ks None h = absurd cc
  reads_more under ks (Some th) h = core_more c t.reads u.reads under place ks th.core h

  writes_more : IsUnder t.writes u.writes → (ks : List CallKind) (o : Option (CompactThread Activation)) → thread_writes (program_of c) t ks o place ≡ true → thread_writes (program_of c) u ks o place ≡ true
  writes_more under ks None h = absurd cc
  writes_more under ks (Some th) h =
      let own = core_has (program_of c) u.writes ks th.core place in
      or_either (core_has (program_of c) t.writes ks th.core place) (buffer_has th.buffer place) _
      (λ e. or_left own (buffer_has th.buffer place) (core_more c t.writes u.writes under place ks th.core e))
      (λ e. or_right own (buffer_has th.buffer place) e) h

-- ---- the two tables

known : {X : Type 0} (xs : List X) (n : ℕ) → n < length xs → (x : X) × (slice_get xs n ≡ Some x)
known [] n lt = absurd (omega (arith, lt))
known (x ∷ xs) zero lt = (x, refl)
known (x ∷ xs) (suc n) lt = known xs n (omega (arith, lt))

list_inductive : (c : Client) (t : IntervalTable) (name : ProcedureKind) → IsInductive c t → IsListInductive c.arrays (instructions_of c name) (inductive.items_of t name)
list_inductive c t procedures.Push is = is.push
list_inductive c t procedures.Pop is = is.pop

module _ (c : Client) (t : IntervalTable) (is : IsInductive c t) where
  there : (name : ProcedureKind) (i : ℕ) (item : Item) → slice_get (inductive.items_of t name) i ≡ Some item → inductive.IsProper c.arrays item
  there name i item at =
      let all = list_inductive c t name is in
      let within = slice_get_within (inductive.items_of t name) i item at in
      let (step, stands) = known (instructions_of c name) i (omega (arith, within, all.lengths)) in
      (all.each i step item stands at).proper

  reads_inside : (name : ProcedureKind) (i n : ℕ) (x : Cells) → slice_get (cells_at Read t name i) n ≡ Some x → IsInArray c.arrays x
  reads_inside name i n x at = by_item (slice_get (inductive.items_of t name) i) refl at
    where
      by_item : (o : Option Item) → slice_get (inductive.items_of t name) i ≡ o → slice_get (cells.reads_of o) n ≡ Some x → IsInArray c.arrays x
      by_item None stands e = absurd (none-some x e)
      by_item (Some item) stands e = (there name i item stands).reads.inside n x e

  writes_inside : (name : ProcedureKind) (i n : ℕ) (x : Cells) → slice_get (cells_at Write t name i) n ≡ Some x → IsInArray c.arrays x
  writes_inside name i n x at = by_item (slice_get (inductive.items_of t name) i) refl at
    where
      by_item : (o : Option Item) → slice_get (inductive.items_of t name) i ≡ o → slice_get (cells.writes_of o) n ≡ Some x → IsInArray c.arrays x
      by_item None stands e = absurd (none-some x e)
      by_item (Some item) stands e = (there name i item stands).writes.inside n x e

  module _ (other : ArrayTable) (narrow : IsNarrower t other) where
    reads_under : IsUnder (cells.table_view c t).reads (arrays_view c other).reads
    reads_under a place h = cells_in c.arrays (cells_at Read t a.procedure a.frame.pc) _ place (reads_inside a.procedure a.frame.pc) (narrow.reads a.procedure a.frame.pc) h

    writes_under : IsUnder (cells.table_view c t).writes (arrays_view c other).writes
    writes_under a place h = cells_in c.arrays (cells_at Write t a.procedure a.frame.pc) _ place (writes_inside a.procedure a.frame.pc) (narrow.writes a.procedure a.frame.pc) h

pub narrower_foresees_no_more : (c : Client) → NarrowerForeseesNoMore c
narrower_foresees_no_more c t other s i place is narrow w =
    let hold = array_futures_hold c other s i place w in
    let calls = calls_left (program_of c) (state_of s) i in
    let thread = slice_get (state_of s).threads i in
    record {
      reads = λ h. hold.reads (reads_more c (cells.table_view c t) (arrays_view c other) place (reads_under c t is other narrow) calls thread (sym (cell_reads_same c t s i place) ∙ h));
      writes = λ h. hold.writes (writes_more c (cells.table_view c t) (arrays_view c other) place (writes_under c t is other narrow) calls thread (sym (cell_writes_same c t s i place) ∙ h));
    }
