use Rattle.tso_store.proofs.Performed.{ran}
use Rattle.tso_store.proofs.sought.find_run.Goals as goal

pub returns-in-Some : goal.returns-in-Some
returns-in-Some c =
    rw c.with_thread.ensures (ran c.args.client.now c.args.parts.now c.args.parts.now c.args.key.now c.args.thread c.args.own c.in-Some.next c.requires.kept
    (record { memories = λ i x e. e; histories = λ i x e. e; threads = λ i x e. e; small = λ h. h })
    c.requires.small c.requires.own (rw c.procedure_at-procedure.ensures at c.in-Some.ensures))
