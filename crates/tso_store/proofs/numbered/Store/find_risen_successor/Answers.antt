use Rattle.tso_store.proofs.Absences.{key_nowhere}
use Rattle.tso_store.proofs.Performed.{step_has}
use Rattle.tso_keys.proofs.StateLemmas.{kept_of}
use Rattle.tso_store.proofs.Sheeted.{can_step, kept_successor}
use Rattle.tso_store.proofs.numbered.Store.find_risen_successor.Goals as goal

pub returns-in-Disabled : goal.returns-in-Disabled
returns-in-Disabled c = rw (← c.self.view_is) (rw c.in-Disabled.is at c.find_from.ensures)

pub returns-in-Absent : goal.returns-in-Absent
returns-in-Absent c = rw (← c.self.view_is) (rw c.in-Absent.is at c.find_from.ensures)

pub returns-in-Some : goal.returns-in-Some
returns-in-Some c =
    let by = rw c.in-At.is at c.find_from.ensures in
    rw (← c.self.view_is) (kept_successor c.self.inside.checked.now.client c.self.inside.parts c.self.inside.keys by.from c.in-At.next c.args.number c.args.actor c.in-Some.number c.self.invariant.small by.at by.step c.in-Some.ensures)

pub returns-in-None : goal.returns-in-None
returns-in-None c =
    let by = rw c.in-At.is at c.find_from.ensures in
    rw (← c.self.view_is) (
      can_step c.self.inside.checked.now.client c.self.inside.parts c.self.inside.keys by.from c.args.number c.args.actor by.at (step_has c.self.inside.checked.now.client c.self.inside.parts by.from c.args.actor c.self.inside.parts c.in-At.next by.step),
      key_nowhere c.self.inside.checked.now.client c.self.inside.parts c.self.inside.keys by.from c.in-At.next c.args.number c.args.actor c.is_numbered-2.ensures.numbered c.is_numbered-3.ensures.numbered c.is_numbered.ensures.numbered c.self.invariant.kept by.at by.step c.in-None.ensures,
    )

pub number_risen-requires-clause-kept : goal.number_risen-requires-clause-kept
number_risen-requires-clause-kept c =
    let by = (rw c.in-At.is at c.find_from.ensures).step in
    (c.self.inside.checked.now.client, c.self.invariant.kept, kept_of c.self.inside.checked.now.client c.self.inside.parts c.in-At.next by.state c.self.invariant.small by.key by.fits)
