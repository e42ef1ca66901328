use Rattle.std.proofs.Common.{◌≡◌, true, List}
use Rattle.std.specs.Prelude.{IfSome}
use Rattle.tso_line.specs.Proper.{are_calls}
use Rattle.tso_line.specs.declared.instruction.CallKind.{CallKind}
use Rattle.tso_line.proofs.Each.{calls_pass, if_some_at}
use Rattle.tso_line.proofs.reading.calls_of.Goals as goal

pub returns-in-Some-2-clause-proper : goal.returns-in-Some-2-clause-proper
returns-in-Some-2-clause-proper c =
    let P : List CallKind → Type 0 = λ v. are_calls v ≡ true in
    let nonempty = if_some_at _ c.in_ok-calls.field-0 c.in-Some.calls c.in-Some.is c.in_ok-calls.ensures.nonempty in
    let calls = if_some_at _ c.in_ok-calls.field-0 c.in-Some.calls c.in-Some.is c.in_ok-calls.ensures.calls in
    let all : IfSome c.in_ok-calls-2.field-0 P = rw c.in_ok-calls-2.ensures.exact (rw c.deref.ensures.value (calls_pass c.in-Some.calls.items nonempty calls)) in
    if_some_at P c.in_ok-calls-2.field-0 c.in-Some-2.calls c.in-Some-2.is all
