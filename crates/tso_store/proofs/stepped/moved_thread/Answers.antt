use Rattle.tso_store.proofs.Recalls.{known_grows}
use Rattle.tso_store.proofs.stepped.moved_thread.Goals as goal

pub returns-in_default-clause-known : goal.returns-in_default-clause-known
returns-in_default-clause-known c = known_grows c.args.client.now c.args.threads.now c.next_thread.new.threads c.args.known.now c.next_thread.ensures.extends c.requires.known
