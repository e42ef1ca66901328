-- A text that is refused because nothing is wrong spells a good run.
use Rattle.std.proofs.Common.{◌≡◌, ℕ, List, subst}
use Rattle.tso_machine.specs.declared.label.Label.{Label}
use Rattle.tso_prog.specs.declared.client.Client.{Client}
use Rattle.tso_show.specs.Replayed.{SpellsGoodRun}
use Rattle.tso_trace.proofs.LawLemmas.{texts_are_unique}
use Rattle.tso_trace.specs.Grammar.{IsReadFault, IsTextFault, IsTextOf}
use Rattle.tso_trace.specs.Runs.{IsGoodRun, IsRun, IsTraceFault}
use Rattle.tso_trace.specs.declared.fault.TraceFault.{TraceFault}
use Rattle.tso_trace.specs.declared.fault.TraceFault.TheVariants.{Grammar, Memory, NoError, NotAStep}

good : (c : Client) (text : List ℕ) (labels found : List Label) → IsTextOf c.arrays text labels → IsTextOf c.arrays text found → IsTraceFault c found NoError → SpellsGoodRun c text labels
good c text labels found spelled same why =
    let e : found ≡ labels = (texts_are_unique c).labels text found labels same spelled in
    record { spelled = spelled; run = subst (IsRun c) e why.0; good = subst (IsGoodRun c) e why.1 }

pub spells_good : (c : Client) (text : List ℕ) (labels : List Label) → IsReadFault c text NoError → IsTextOf c.arrays text labels → SpellsGoodRun c text labels
spells_good c text labels fault spelled = good c text labels fault.0 spelled fault.1 fault.2

pub read_fault : (c : Client) (text : List ℕ) (fault : TraceFault) → IsTextFault c.arrays text fault → IsReadFault c text fault
read_fault c text (Grammar line) f = f
read_fault c text Memory f = f
read_fault c text (NotAStep number) f = absurd f
read_fault c text NoError f = absurd f
