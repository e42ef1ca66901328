use Rattle.std.proofs.Common.{◌∙◌, false, List, slice_get, sym, ap}
use Rattle.std.proofs.lemmas.Bool.{false≢true}
use Rattle.std.proofs.lemmas.Option.{slice_get_within}
use Rattle.tso_table.proofs.RowLemmas.{makes_claim_no}
use Rattle.tso_table.proofs.SoundLemmas.{sound_claim, sound_same}
use Rattle.tso_table.specs.OneThread.{Rows, claim, taken}
use Rattle.tso_table.specs.declared.slot.Slot.{Slot}
use Rattle.tso_table.specs.declared.slot.Slot.TheVariants.{Waiting}
use Rattle.tso_table.proofs.table.Table.claim.Goals as goal

pub invariant_of-self : goal.invariant_of-self
invariant_of-self c =
    let i = c.self.inside in
    let r : Rows = record { states = i.store.states; slots = i.slots.items } in
    (c.self.invariant.0, sound_same (claim c.args.place) (taken false) c.self.invariant.1 (makes_claim_no r c.args.place (λ e. false≢true (sym c.if-not-is_waiting.true ∙ c.is_waiting.ensures.1 (ap (λ (xs : List Slot). slice_get xs c.args.place) c.as_slice.ensures.value ∙ e)))))

pub set_slot-requires : goal.set_slot-requires
set_slot-requires c =
    let waits = c.is_waiting.ensures.0 c.if-not-is_waiting.false in
    slice_get_within c.self.inside.slots.items c.args.place Waiting (ap (λ (xs : List Slot). slice_get xs c.args.place) (sym c.as_slice.ensures.value) ∙ waits)

pub invariant_of-self-2 : goal.invariant_of-self-2
invariant_of-self-2 c =
    let waits = c.is_waiting.ensures.0 c.if-not-is_waiting.false in
    (c.self.invariant.0, rw c.set_slot.ensures (sound_claim c.args.place c.self.invariant.1 (ap (λ (xs : List Slot). slice_get xs c.args.place) (sym c.as_slice.ensures.value) ∙ waits)))
