use Rattle.std.proofs.Common.{refl}
use Rattle.tso_store.proofs.Recalls.{known_grows, new_run}
use Rattle.tso_store.proofs.known.run_by_motion.Goals as goal

pub returns-in_err-next-clause-known : goal.returns-in_err-next-clause-known
returns-in_err-next-clause-known c = known_grows c.args.client.now c.args.threads.now c.next_thread.new.threads c.args.known.now c.next_thread.ensures.extends c.requires.known

pub remember_run-requires-2-clause-known : goal.remember_run-requires-2-clause-known
remember_run-requires-2-clause-known c = known_grows c.args.client.now c.args.threads.now c.next_thread.new.threads c.args.known.now c.next_thread.ensures.extends c.requires.known

pub remember_run-requires-2-clause-run : goal.remember_run-requires-2-clause-run
remember_run-requires-2-clause-run c = new_run c.args.client.now c.args.procedure c.args.threads.now c.next_thread.new.threads c.args.number c.in_ok-next.next c.args.motion c.next_thread.ensures.extends c.requires.next (c.if-not-is_own.ensures refl) c.in_ok-next.ensures.number

pub returns-clause-run : goal.returns-clause-run
returns-clause-run c = new_run c.args.client.now c.args.procedure c.args.threads.now c.next_thread.new.threads c.args.number c.in_ok-next.next c.args.motion c.next_thread.ensures.extends c.requires.next (c.if-not-is_own.ensures refl) c.in_ok-next.ensures.number
