-- A closed table of arrays is closed in the model's sense.
use Rattle.std.proofs.Common.{◌≡◌, ◌∙◌, ℕ, ◌<◌, ◌≤◌, true, List, length, Option, None, Some, ◌⊎◌, inl, inr, refl, sym, ap, subst, arith}
use Rattle.std.proofs.lemmas.Bool.{cases_lt}
use Rattle.std.proofs.lemmas.Option.{slice_get_past, slice_get_within, slice_get-get_or}
use Rattle.tso_state.proofs.ViewLemmas.{none_there}
use Rattle.tso_flow.specs.Paths.{goes_on, goes_on_from}
use Rattle.tso_flow.specs.declared.location.ProcedureKind.{ProcedureKind}
use Rattle.tso_flow.specs.declared.location.ProcedureKind.TheVariants as procedures
use Rattle.tso_foot.proofs.AccessLemmas.{HasAccess, next_has_own, none_next}
use Rattle.tso_foot.proofs.MaskLemmas.{covers_place, holds_reads, holds_writes, no_place}
use Rattle.tso_foot.specs.Closed.{IsArrayTableClosed, IsItem, IsListClosed, items_of}
use Rattle.tso_foot.specs.Laws.{arrays_view}
use Rattle.tso_foot.specs.Masks.{has_place, masks_at, no_masks, own_masks}
use Rattle.tso_foot.specs.declared.masks.Masks.{Masks}
use Rattle.tso_foot.specs.declared.table.ArrayTable.{ArrayTable}
use Rattle.tso_line.specs.declared.instruction.Instruction.{Instruction}
use Rattle.tso_machine.proofs.Edges.{follow_edges}
use Rattle.tso_machine.specs.Activations.{Activation}
use Rattle.tso_machine.specs.Control.{GoesOnWith, IsNext, instruction_at}
use Rattle.tso_machine.specs.Instructions.{instructions_of, next_action}
use Rattle.tso_model.specs.Programs.{Action, Barrier, Cut, Fail, Load, Locked, Ret, Silent, Store}
use Rattle.tso_model.specs.Table.{Below, IsClosedAt}
use Rattle.tso_prog.specs.declared.client.Client.{Client}

list_closed : (c : Client) (t : ArrayTable) (name : ProcedureKind) → IsArrayTableClosed c t → IsListClosed (length c.arrays) (instructions_of c name) (items_of t name)
list_closed c t procedures.Push closed = closed.push
list_closed c t procedures.Pop closed = closed.pop

-- the item at a running call's position
abbrev item_at : ArrayTable → Activation → Masks
item_at t a = masks_at (items_of t a.procedure) a.frame.pc

item_there : (c : Client) (t : ArrayTable) (a : Activation) (step : Instruction ℕ ℕ) → IsArrayTableClosed c t → instruction_at c a ≡ Some step
    → IsItem (length c.arrays) (items_of t a.procedure) a.frame.pc step (item_at t a)
item_there c t a step closed at =
    let l = list_closed c t a.procedure closed in
    let lt = slice_get_within (instructions_of c a.procedure) a.frame.pc step at in
    let inside : a.frame.pc < length (items_of t a.procedure) = omega (arith, lt, l.lengths) in
    l.each a.frame.pc step (item_at t a) at (slice_get-get_or (items_of t a.procedure) a.frame.pc no_masks inside)

past_end : (items : List Masks) (i : ℕ) → length items ≤ i → masks_at items i ≡ no_masks
past_end items i le = none_there items i no_masks (slice_get_past items i le)

edge_goes : (o : Option (Instruction ℕ ℕ)) (step : Instruction ℕ ℕ) (i j : ℕ) → o ≡ Some step → goes_on_from None o i j ≡ true → goes_on step i j ≡ true
edge_goes None step i j e h = absurd cc
edge_goes (Some s) step i j e h = let same : s ≡ step = cc in subst (λ (x : Instruction ℕ ℕ). goes_on x i j ≡ true) same h

-- a successor's item is below
below_next : (c : Client) (t : ArrayTable) (a b : Activation) (step : Instruction ℕ ℕ) → IsArrayTableClosed c t → instruction_at c a ≡ Some step → IsNext c a b → Below (arrays_view c t) b a
below_next c t a b step closed at next =
    let item = item_there c t a step closed at in
    let items = items_of t a.procedure in
    let go : goes_on step a.frame.pc b.frame.pc ≡ true = edge_goes (instruction_at c a) step a.frame.pc b.frame.pc at next.edge in
    let same : item_at t b ≡ masks_at items b.frame.pc = ap (λ name. masks_at (items_of t name) b.frame.pc) next.procedure in
    let kept : (place : ℕ) → (has_place c.arrays (masks_at items b.frame.pc).reads place ≡ true → has_place c.arrays (item_at t a).reads place ≡ true)
    × (has_place c.arrays (masks_at items b.frame.pc).writes place ≡ true → has_place c.arrays (item_at t a).writes place ≡ true) =
    λ place. inside (cases_lt b.frame.pc (length items)) place
    in record {
      reads = λ place h. (kept place).0 (ap (λ (m : Masks). has_place c.arrays m.reads place) (sym same) ∙ h);
      writes = λ place h. (kept place).1 (ap (λ (m : Masks). has_place c.arrays m.writes place) (sym same) ∙ h);
    }
  where
    inside : (b.frame.pc < length (items_of t a.procedure)) ⊎ (length (items_of t a.procedure) ≤ b.frame.pc) → (place : ℕ)
        → (has_place c.arrays (masks_at (items_of t a.procedure) b.frame.pc).reads place ≡ true → has_place c.arrays (item_at t a).reads place ≡ true)
        × (has_place c.arrays (masks_at (items_of t a.procedure) b.frame.pc).writes place ≡ true → has_place c.arrays (item_at t a).writes place ≡ true)
    inside (inl lt) place =
        let item = item_there c t a step closed at in
        let has = item.successors b.frame.pc (edge_goes (instruction_at c a) step a.frame.pc b.frame.pc at next.edge) lt in (
          λ h. covers_place c.arrays _ _ place (holds_reads (item_at t a) (masks_at (items_of t a.procedure) b.frame.pc) has) h,
          λ h. covers_place c.arrays _ _ place (holds_writes (item_at t a) (masks_at (items_of t a.procedure) b.frame.pc) has) h,
        )
    inside (inr le) place =
        let none = past_end (items_of t a.procedure) b.frame.pc le in (
          λ h. absurd (no_place c.arrays place (ap (λ (m : Masks). has_place c.arrays m.reads place) (sym none) ∙ h)),
          λ h. absurd (no_place c.arrays place (ap (λ (m : Masks). has_place c.arrays m.writes place) (sym none) ∙ h)),
        )

closed_action : (c : Client) (t : ArrayTable) (a : Activation) (step : Instruction ℕ ℕ) (x : Action Activation) → IsArrayTableClosed c t → instruction_at c a ≡ Some step
    → HasAccess c.arrays (own_masks step) x → GoesOnWith (IsNext c a) x → IsClosedAt (arrays_view c t) a x
closed_action c t a step (Silent g) closed at own on = below_next c t a g step closed at on
closed_action c t a step (Load p k) closed at own on =
    let item = item_there c t a step closed at in
    (covers_place c.arrays _ _ p (holds_reads (item_at t a) (own_masks step) item.own) own, λ w. below_next c t a (k w) step closed at (on w))
closed_action c t a step (Store p v g) closed at own on =
    let item = item_there c t a step closed at in
    (covers_place c.arrays _ _ p (holds_writes (item_at t a) (own_masks step) item.own) own, below_next c t a g step closed at on)
closed_action c t a step (Barrier g) closed at own on = below_next c t a g step closed at on
closed_action c t a step (Locked p n k) closed at own on =
    let item = item_there c t a step closed at in (
      covers_place c.arrays _ _ p (holds_reads (item_at t a) (own_masks step) item.own) own.0,
      covers_place c.arrays _ _ p (holds_writes (item_at t a) (own_masks step) item.own) own.1,
      λ w. below_next c t a (k w) step closed at (on w),
    )
closed_action c t a step (Ret r) closed at own on = tt
closed_action c t a step (Fail n) closed at own on = tt
closed_action c t a step Cut closed at own on = tt

closed_at : (c : Client) (t : ArrayTable) (a : Activation) (o : Option (Instruction ℕ ℕ)) → instruction_at c a ≡ o → IsArrayTableClosed c t → IsClosedAt (arrays_view c t) a (next_action c a)
closed_at c t a None at closed = let Q : Action Activation → Type 0 = λ x. IsClosedAt (arrays_view c t) a x in subst Q (sym (none_next c a at)) tt
closed_at c t a (Some step) at closed = closed_action c t a step (next_action c a) closed at (next_has_own c a step at) (follow_edges c a)

pub arrays_closed_at : (c : Client) (t : ArrayTable) (a : Activation) → IsArrayTableClosed c t → IsClosedAt (arrays_view c t) a (next_action c a)
arrays_closed_at c t a closed = closed_at c t a (instruction_at c a) refl closed
