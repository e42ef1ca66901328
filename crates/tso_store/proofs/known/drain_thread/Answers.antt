use Rattle.tso_store.proofs.Recalls.{known_grows}
use Rattle.tso_store.proofs.known.drain_thread.Goals as goal

pub returns-in_err-next-clause-known : goal.returns-in_err-next-clause-known
returns-in_err-next-clause-known c = known_grows c.args.client.now c.args.threads.now c.next_thread.new.threads c.args.known.now c.next_thread.ensures.extends c.requires.known

pub remember_drain-requires-clause-known : goal.remember_drain-requires-clause-known
remember_drain-requires-clause-known c = known_grows c.args.client.now c.args.threads.now c.next_thread.new.threads c.args.known.now c.next_thread.ensures.extends c.requires.known
