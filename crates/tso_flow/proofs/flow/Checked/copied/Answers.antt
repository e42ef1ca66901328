use Rattle.std.proofs.Common.{subst, sym}
use Rattle.tso_flow.specs.Faults.{HasNoFault}
use Rattle.tso_prog.specs.declared.client.Client.{Client}
use Rattle.tso_flow.proofs.flow.Checked.copied.Goals as goal

pub invariant_of-result : goal.invariant_of-result
invariant_of-result c =
    let P : Client → Type 0 = λ x. HasNoFault x in
    record { no_fault = subst P (sym c.in_ok-client.ensures) c.args.self.now.no_fault }
