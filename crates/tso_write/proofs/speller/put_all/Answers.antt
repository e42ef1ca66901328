use Rattle.tso_write.proofs.SpellerLemmas.{one_more_put}
use Rattle.tso_write.proofs.speller.put_all.Goals as goal

pub loop-number-preserved : goal.loop-number-preserved
loop-number-preserved c = one_more_put c.args.more.now c.args.all.now c.loop-number.all c.push.new.self c.loop-number.number c.in-Some.bytes.now c.loop-number.invariant c.in-Some.ensures c.in_ok-push.ensures.ok
