use Rattle.std.proofs.Common.{◌∙◌, ◌<◌, arith, length, length-set, sym}
use Rattle.tso_choose.proofs.ChoosingLemmas.{all_noted, no_step_noted, step_noted}
use Rattle.tso_choose.proofs.choosing.note_needs.Goals as goal
use Rattle.tso_choose.proofs.choosing.note_needs.Goals.{in-Some, in_default}

pub loop-number-preserved : goal.loop-number-preserved
loop-number-preserved g c =
    let client = c.args.checked.now.client in
    let s = g.S.Viewed.state c.args.state.now in
    let n = c.loop-number.number in
    let inside : n < length c.loop-number.needs = omega (arith, c.loop-number-test.true, c.requires.size, c.loop-number.auto.needs) in
    elim c.match-kinds-number.branch [
      | in-Some w ↦ rw w.needs-is (record { size = length-set c.loop-number.needs n w.needed.result ∙ c.loop-number.invariant.size; noted = step_noted client c.args.table.now s n c.loop-number.needs w.needed.result w.in-Some.kind c.loop-number.invariant.noted inside (sym (c.requires.kinds n) ∙ w.in-Some.is) w.needed.ensures })
      | in_default w ↦ rw w.needs-is (record { size = c.loop-number.invariant.size; noted = no_step_noted client c.args.table.now s n c.loop-number.needs c.loop-number.invariant.noted (sym (c.requires.kinds n) ∙ w.in_default.is) })
    ]

pub returns-clause-is : goal.returns-clause-is
returns-clause-is g c = all_noted c.args.checked.now.client c.args.table.now (g.S.Viewed.state c.args.state.now) c.loop-number.number c.loop-number.needs c.args.kinds.now c.loop-number.invariant.noted c.requires.kinds c.loop-number-test.false
