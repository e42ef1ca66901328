use Rattle.std.proofs.Common.{◌≡◌, ◌∙◌, ◌≤◌, true, List, slice_get, sym, ap, arith}
use Rattle.tso_table.proofs.SoundLemmas.{some_open, sound_finish}
use Rattle.tso_table.specs.Ends.{AreNear, IsEnd}
use Rattle.tso_table.specs.OneThread.{are_there, is_this}
use Rattle.tso_table.specs.declared.slot.Slot.{Slot}
use Rattle.tso_table.proofs.table.Table.finish.Goals as goal

pub overflow_sub-self : goal.overflow_sub-self
overflow_sub-self c =
    let claimed = c.is_claimed.ensures.0 c.if-not-is_claimed.false in
    some_open c.args.place c.self.invariant.1 (ap (λ (xs : List Slot). slice_get xs c.args.place) (sym c.as_slice.ensures.value) ∙ claimed)

pub invariant_of-self : goal.invariant_of-self
invariant_of-self c =
    let i = c.self.inside in
    let claimed = c.is_claimed.ensures.0 c.if-not-is_claimed.false in
    let at = ap (λ (xs : List Slot). slice_get xs c.args.place) (sym c.as_slice.ensures.value) ∙ claimed in
    let this : is_this c.args.state.now (slice_get i.store.states c.args.place) ≡ true = sym c.is_at.ensures ∙ c.if-not-is_at.false in
    let there : are_there i.store.states c.args.near.now ≡ true = sym c.are_there.ensures ∙ c.if-not-are_there.false in
    let end : IsEnd i.checked.now.client i.table.now c.args.state.now c.args.filed = rw (← c.self.view_is) at c.requires.end in
    let near : AreNear i.checked.now.client i.number c.args.state.now c.args.filed c.args.near.now = rw (← c.self.view_is) at c.requires.near in
    let some : 1 ≤ i.unfinished = some_open c.args.place c.self.invariant.1 at in
    (c.self.invariant.0, rw c.set_slot.ensures (sound_finish c.args.place c.self.invariant.1 at this there end near (omega (arith, some))))
