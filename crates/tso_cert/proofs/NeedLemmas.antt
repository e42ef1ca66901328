-- Arrays that are needed are in every closed table of arrays.
use Rattle.std.proofs.Common.{◌≡◌, ◌∙◌, ℕ, ◌==◌, true, List, length, Option, None, Some, slice_get, refl, sym, ap, arith}
use Rattle.std.specs.Prelude.{◌^◌}
use Rattle.std.proofs.lemmas.Nat.Bits.{bit_at-pow_same}
use Rattle.std.proofs.lemmas.Option.{none-some, same_Some, slice_get_within, slice_get-get_or}
use Rattle.tso_cells.specs.Laws.{reads_of, writes_of}
use Rattle.tso_cells.specs.declared.table.Cells.{Cells}
use Rattle.tso_cells.specs.declared.table.IntervalTable.{IntervalTable}
use Rattle.tso_cells.specs.declared.table.Item.{Item}
use Rattle.tso_flow.specs.declared.location.ProcedureKind.{ProcedureKind}
use Rattle.tso_flow.specs.declared.location.ProcedureKind.TheVariants as procedures
use Rattle.tso_foot.proofs.MaskLemmas.{covers_has, holds_reads, holds_writes}
use Rattle.tso_foot.specs.Ahead.{cells_at}
use Rattle.tso_foot.specs.Closed.{IsItem, IsListClosed, items_of}
use Rattle.tso_foot.specs.Masks.{has_array, masks_at, no_masks, own_masks}
use Rattle.tso_foot.specs.Narrower.{IsNarrowerThanClosed}
use Rattle.tso_foot.specs.declared.ahead.Access.TheVariants.{Read, Write}
use Rattle.tso_foot.specs.declared.masks.Masks.{Masks}
use Rattle.tso_line.specs.declared.instruction.Instruction.{Instruction}
use Rattle.tso_line.specs.declared.instruction.Instruction.TheVariants as the
use Rattle.tso_prog.specs.declared.client.Client.{Client}
use Rattle.tso_cells.specs.Columns.{IsNeed, read_array, written_array}
use Rattle.tso_cells.specs.Widened.{NamesNeeded, NamesOnlyNeeded}

has_own : (k : ℕ) → has_array (2 ^ k) k ≡ true
has_own k = ap (λ n. n == 1) (bit_at-pow_same k)

own_read : (step : Instruction ℕ ℕ) (a : ℕ) → read_array step ≡ Some a → has_array (own_masks step).reads a ≡ true
own_read (the.Load to from) a e = ap (has_array (2 ^ from.array)) (sym (same_Some from.array a e)) ∙ has_own from.array
own_read (the.Locked operation cell r) a e = ap (has_array (2 ^ cell.array)) (sym (same_Some cell.array a e)) ∙ has_own cell.array
own_read (the.Move to from) a e = absurd (none-some a e)
own_read (the.Store to from) a e = absurd (none-some a e)
own_read (the.Compute operation to from) a e = absurd (none-some a e)
own_read (the.Compare comparison left right) a e = absurd (none-some a e)
own_read (the.Increment r) a e = absurd (none-some a e)
own_read (the.Decrement r) a e = absurd (none-some a e)
own_read (the.Jump when target bound) a e = absurd (none-some a e)
own_read (the.Assert condition) a e = absurd (none-some a e)
own_read the.Fence a e = absurd (none-some a e)
own_read the.Nop a e = absurd (none-some a e)
own_read the.Pause a e = absurd (none-some a e)
own_read the.Return a e = absurd (none-some a e)

own_write : (step : Instruction ℕ ℕ) (a : ℕ) → written_array step ≡ Some a → has_array (own_masks step).writes a ≡ true
own_write (the.Store to from) a e = ap (has_array (2 ^ to.array)) (sym (same_Some to.array a e)) ∙ has_own to.array
own_write (the.Locked operation cell r) a e = ap (has_array (2 ^ cell.array)) (sym (same_Some cell.array a e)) ∙ has_own cell.array
own_write (the.Move to from) a e = absurd (none-some a e)
own_write (the.Load to from) a e = absurd (none-some a e)
own_write (the.Compute operation to from) a e = absurd (none-some a e)
own_write (the.Compare comparison left right) a e = absurd (none-some a e)
own_write (the.Increment r) a e = absurd (none-some a e)
own_write (the.Decrement r) a e = absurd (none-some a e)
own_write (the.Jump when target bound) a e = absurd (none-some a e)
own_write (the.Assert condition) a e = absurd (none-some a e)
own_write the.Fence a e = absurd (none-some a e)
own_write the.Nop a e = absurd (none-some a e)
own_write the.Pause a e = absurd (none-some a e)
own_write the.Return a e = absurd (none-some a e)

module _ (arrays : ℕ) (steps : List (Instruction ℕ ℕ)) (others : List Masks) (closed : IsListClosed arrays steps others) where
  item_is : (i : ℕ) (step : Instruction ℕ ℕ) → slice_get steps i ≡ Some step → IsItem arrays others i step (masks_at others i)
  item_is i step at =
      let within = slice_get_within steps i step at in
      closed.each i step (masks_at others i) at (slice_get-get_or others i no_masks (omega (arith, within, closed.lengths)))

  reads_needed : IsNeed read_array steps (λ i a. has_array (masks_at others i).reads a)
  reads_needed = record {
    own_is = λ i a step at e. covers_has _ _ a (holds_reads (masks_at others i) (own_masks step) (item_is i step at).own) (own_read step a e);
    successors = λ i j a step at goes lt h.
        covers_has _ _ a (holds_reads (masks_at others i) (masks_at others j) ((item_is i step at).successors j goes (omega (arith, lt, closed.lengths)))) h;
  }

  writes_needed : IsNeed written_array steps (λ i a. has_array (masks_at others i).writes a)
  writes_needed = record {
    own_is = λ i a step at e. covers_has _ _ a (holds_writes (masks_at others i) (own_masks step) (item_is i step at).own) (own_write step a e);
    successors = λ i j a step at goes lt h.
        covers_has _ _ a (holds_writes (masks_at others i) (masks_at others j) ((item_is i step at).successors j goes (omega (arith, lt, closed.lengths)))) h;
  }

  module _ (items : List Item) (needed : NamesNeeded steps items) (i n : ℕ) (x : Cells) where
    read_named : (o : Option Item) → slice_get items i ≡ o → slice_get (reads_of o) n ≡ Some x → has_array (masks_at others i).reads x.array ≡ true
    read_named None at e = absurd (none-some x e)
    read_named (Some item) at e = needed.reads (λ j a. has_array (masks_at others j).reads a) reads_needed i n item x at e

    written_named : (o : Option Item) → slice_get items i ≡ o → slice_get (writes_of o) n ≡ Some x → has_array (masks_at others i).writes x.array ≡ true
    written_named None at e = absurd (none-some x e)
    written_named (Some item) at e = needed.writes (λ j a. has_array (masks_at others j).writes a) writes_needed i n item x at e

pub names_no_more : (c : Client) (t : IntervalTable) → NamesOnlyNeeded c t → IsNarrowerThanClosed c t
names_no_more c t needed other closed = record { reads = reads; writes = writes }
  where
    reads : (name : ProcedureKind) (i n : ℕ) (x : Cells) → slice_get (cells_at Read t name i) n ≡ Some x → has_array (masks_at (items_of other name) i).reads x.array ≡ true
    reads procedures.Push i n x at = read_named (length c.arrays) c.push.instructions other.push closed.push t.push needed.push i n x (slice_get t.push i) refl at
    reads procedures.Pop i n x at = read_named (length c.arrays) c.pop.instructions other.pop closed.pop t.pop needed.pop i n x (slice_get t.pop i) refl at

    writes : (name : ProcedureKind) (i n : ℕ) (x : Cells) → slice_get (cells_at Write t name i) n ≡ Some x → has_array (masks_at (items_of other name) i).writes x.array ≡ true
    writes procedures.Push i n x at = written_named (length c.arrays) c.push.instructions other.push closed.push t.push needed.push i n x (slice_get t.push i) refl at
    writes procedures.Pop i n x at = written_named (length c.arrays) c.pop.instructions other.pop closed.pop t.pop needed.pop i n x (slice_get t.pop i) refl at
