use Rattle.std.proofs.Common.{subst, sym, List}
use Rattle.tso_machine.specs.declared.back.Undo.{Undo}
use Rattle.tso_machine.specs.declared.label.Label.{Label}
use Rattle.tso_machine.specs.declared.label.LabelKind.TheVariants.{Reg}
use Rattle.tso_machine.specs.declared.machine.Machine.{Machine}
use Rattle.tso_trace.proofs.WalkLemmas.{at_less}
use Rattle.tso_trace.specs.Walks.{IsAt}
use Rattle.tso_trace.proofs.cursor.step_back.Goals as goal

some_label : Label
some_label = record { thread = 0; kind = Reg }

pub undo-requires : goal.undo-requires
undo-requires c =
    let Q : List Undo → Type 0 = λ us. IsAt c.args.trace.now.checked.client c.args.trace.now.labels us c.args.machine.now in
    (at_less c.args.trace.now.checked.client c.args.trace.now.labels c.pop.new.self.items c.in-Some.back c.args.machine.now some_label
    (subst Q c.in-Some.ensures.items c.requires)).back.fits

pub returns-in-Some-clause-at : goal.returns-in-Some-clause-at
returns-in-Some-clause-at c =
    let Q : List Undo → Type 0 = λ us. IsAt c.args.trace.now.checked.client c.args.trace.now.labels us c.args.machine.now in
    let before = at_less c.args.trace.now.checked.client c.args.trace.now.labels c.pop.new.self.items c.in-Some.back c.args.machine.now some_label
    (subst Q c.in-Some.ensures.items c.requires) in
    let P : Machine → Type 0 = λ m. IsAt c.args.trace.now.checked.client c.args.trace.now.labels c.pop.new.self.items m in
    subst P (sym (c.undo.ensures.before before.machine before.back)) before.at
