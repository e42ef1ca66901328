use Rattle.std.proofs.Common.{refl}
use Rattle.tso_store.proofs.Recalls.{new_run}
use Rattle.tso_store.proofs.known.learn_run.Goals as goal

pub remember_run-requires-in-Some-find_thread-clause-run : goal.remember_run-requires-in-Some-find_thread-clause-run
remember_run-requires-in-Some-find_thread-clause-run c =
    new_run c.args.client.now c.args.procedure c.args.threads.now c.args.threads.now c.args.number c.in-Some-find_thread.next c.in-Some.motion (λ i x e. e) c.in-Some.ensures (c.if-not-is_own.ensures refl) c.in-Some-find_thread.ensures
