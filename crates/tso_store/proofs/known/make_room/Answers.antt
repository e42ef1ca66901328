use Rattle.tso_store.proofs.Recalls.{known_more}
use Rattle.tso_store.proofs.known.make_room.Goals as goal

pub returns-in_err-push : goal.returns-in_err-push
returns-in_err-push c = rw c.in_err-push.ensures.err c.loop.invariant

pub loop-preserved : goal.loop-preserved
loop-preserved c = rw c.in_ok-push.ensures.ok (known_more c.args.client.now c.args.threads.now c.loop.known c.loop.invariant)
