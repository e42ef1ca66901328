use Rattle.std.proofs.Common.{sym}
use Rattle.tso_regions.proofs.RegionLemmas.{following_on, following_past, there_still}
use Rattle.tso_regions.proofs.stepping.follow_all.Goals as goal
use Rattle.tso_regions.proofs.stepping.follow_all.Goals.{then-has_bit+in_ok-new+in_ok-list, else-has_bit}

pub follow-requires-clause-from : goal.follow-requires-clause-from
follow-requires-clause-from c = there_still c.args.store.now.states c.loop-k.store.states c.args.number c.loop-k.invariant.stays c.requires.from

pub loop-k-preserved : goal.loop-k-preserved
loop-k-preserved c = elim c.if-has_bit.branch [
  | then-has_bit+in_ok-new+in_ok-list w ↦ following_on c.args.checked.now.client c.args.store.now c.loop-k.store w.follow.new.store c.if-has_bit.store c.args.number c.args.set c.loop-k.k w.actor_at.result
      c.loop-k.invariant w.follow.ensures.client w.in_ok-new.ensures.sound w.follow.ensures.stays w.actor_at.ensures w.in_ok-new.ensures.followed w.store-is
  | else-has_bit w ↦ following_past c.args.checked.now.client c.args.store.now c.loop-k.store c.if-has_bit.store c.args.number c.args.set c.loop-k.k c.loop-k.invariant (sym w.if-has_bit.ensures) w.store-is
]
