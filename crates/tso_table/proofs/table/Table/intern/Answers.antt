use Rattle.std.proofs.Common.{◌≡◌, ◌∙◌, ◌+◌, ◌<◌, ◌^◌, true, false, length, arith}
use Rattle.tso_table.proofs.RowLemmas.{makes_new, makes_old}
use Rattle.tso_table.proofs.SoundLemmas.{few_open, sound_push, sound_same}
use Rattle.tso_table.specs.Leading.{IsKept, shard_of}
use Rattle.tso_table.specs.OneThread.{Rows, intern, placed}
use Rattle.tso_table.proofs.table.Table.intern.Goals as goal

pub overflow_add-self-in-Ok : goal.overflow_add-self-in-Ok
overflow_add-self-in-Ok c =
    let lt = few_open c.self.invariant.1 in
    let same = c.self.invariant.1.unfinished_is in
    record { fits = omega (arith, lt, same) }

pub invariant_of-self : goal.invariant_of-self
invariant_of-self c =
    let i = c.self.inside in
    let r : Rows = record { states = i.store.states; slots = i.slots.items } in
    let s = c.args.kept.now.state in
    (c.self.invariant.0, sound_same (intern s) (placed c.in-Some.place false) c.self.invariant.1 (makes_old r s c.in-Some.place c.states_differ.ensures c.in-Some.ensures))

pub invariant_of-self-in-Ok : goal.invariant_of-self-in-Ok
invariant_of-self-in-Ok c =
    let i = c.self.inside in
    let leads : IsKept i.checked.now.client c.args.kept.now = rw (← c.self.view_is) at c.requires.leads in
    let here : shard_of c.args.kept.now.state ≡ i.number = rw (← c.self.view_is) at c.requires.here in
    let room : c.args.room ≡ true → length i.store.states + 1 < 2 ^ 32 = rw (← c.self.view_is) at c.requires.small in (
      c.put_last.ensures.client ∙ c.self.invariant.0,
      rw (c.in-Ok.ensures.states, c.in-Ok.ensures.actors, c.in-Ok.ensures.slots) (sound_push c.args.kept.now c.self.invariant.1 leads here (room c.if-not-room.false) c.in_default.ensures),
    )

pub returns-in-Some-clause-made : goal.returns-in-Some-clause-made
returns-in-Some-clause-made c =
    let i = c.self.inside in
    let r : Rows = record { states = i.store.states; slots = i.slots.items } in
    rw (← c.self.view_is) (makes_old r c.args.kept.now.state c.in-Some.place c.states_differ.ensures c.in-Some.ensures)

pub returns-in-Ok-clause-made : goal.returns-in-Ok-clause-made
returns-in-Ok-clause-made c =
    let i = c.self.inside in
    let r : Rows = record { states = i.store.states; slots = i.slots.items } in
    rw (← c.self.view_is, c.in-Ok.ensures.states, c.in-Ok.ensures.slots, c.in-Ok.ensures.place) (makes_new r c.args.kept.now.state c.in_default.ensures)
