use Rattle.std.proofs.Common.{sym, subst}
use Rattle.std.specs.Prelude.{Option}
use Rattle.tso_prog.specs.declared.fault.Fault.{Fault}
use Rattle.tso_flow.specs.Faults.{HasFault, IsFirst}
use Rattle.tso_flow.proofs.Locations.{first_of_client}
use Rattle.tso_flow.proofs.fault.first_fault.Goals as goal

pub returns : goal.returns
returns c =
    subst (λ (o : Option Fault). IsFirst (HasFault c.args.client.now) o) (sym c.earlier.ensures) (first_of_client c.args.client.now c.in_ok-push.push c.in_ok-pop.pop c.in_ok-push.ensures c.in_ok-pop.ensures)
