use Rattle.std.proofs.Common.{◌≡◌, ◌∙◌, false, sym}
use Rattle.std.proofs.lemmas.Option.{slice_get-map}
use Rattle.tso_machine.proofs.StepLemmas.{actor_of_core}
use Rattle.tso_machine.specs.Machines.{thread_view}
use Rattle.tso_machine.specs.Stepping.{is_drain}
use Rattle.tso_machine.proofs.step.next_offer.Goals as goal

pub returns-else-is_drain-clause-is : goal.returns-else-is_drain-clause-is
returns-else-is_drain-clause-is c =
    let core : is_drain c.args.label.kind ≡ false = sym c.is_drain.ensures ∙ c.if-is_drain.false in
    rw (actor_of_core c.args.label.thread c.args.label.kind core, slice_get-map thread_view c.args.machine.now.threads c.args.label.thread, c.requires) c.core_offer.ensures.is
