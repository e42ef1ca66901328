use Rattle.std.proofs.Common.{◌≡◌, length, sym, arith}
use Rattle.tso_machine.proofs.CallLists.{calls_there, calls_last, calls_past, none_past}
use Rattle.tso_machine.proofs.calls.calls_of.Goals as goal

pub returns-in-Some : goal.returns-in-Some
returns-in-Some c =
    rw c.as_slice.ensures (sym (calls_there c.args.client.now.threads c.args.client.now.prologue c.args.thread c.in-Some.calls.now (sym c.in-Some.ensures)))

pub returns-then-thread-len : goal.returns-then-thread-len
returns-then-thread-len c =
    rw (c.as_slice-then-thread-len.ensures, c.if-thread-len.true, c.len.ensures) (sym (calls_last c.args.client.now.threads c.args.client.now.prologue))

pub returns-else-thread-len : goal.returns-else-thread-len
returns-else-thread-len c =
    let past = none_past c.args.client.now.threads c.args.thread (sym c.in_default.ensures) in
    let other : c.args.thread ≡ length c.args.client.now.threads → ⊥ = rw c.len.ensures at c.if-thread-len.false in
    sym (calls_past c.args.client.now.threads c.args.client.now.prologue c.args.thread (omega (arith, past, other)))
