use Rattle.std.proofs.Common.{ap, arith, sym, subst, Vec, Global}
use Rattle.tso_search.proofs.SearchLemmas.{following_first, following_on, following_past, room_as, room_both, still_there}
use Rattle.tso_search.specs.Goodness.{AllGood}
use Rattle.tso_store.specs.Sheets.{Sheet}
use Rattle.tso_search.specs.declared.origin.Origin.{Origin}
use Rattle.tso_search.proofs.following.follow_all.Goals as goal
use Rattle.tso_search.proofs.following.follow_all.Goals.{then-has_bit+in_ok-new+in_ok-list, else-has_bit}

pub loop-k-init : goal.loop-k-init
loop-k-init c = record {
  following = following_first c.args.checked.now.client c.args.ground.now c.args.limit c.args.store.now c.args.origins.now.items c.args.number c.args.set c.requires.client c.requires.begun c.requires.few;
  good = c.requires.good;
}

pub follow-requires-clause-from : goal.follow-requires-clause-from
follow-requires-clause-from c = still_there c.args.store.now.states c.loop-k.store.states c.args.number c.requires.begun.initial c.loop-k.invariant.following.on.stays c.requires.from

pub loop-k-preserved : goal.loop-k-preserved
loop-k-preserved c = elim c.if-has_bit.branch [
  | then-has_bit+in_ok-new+in_ok-list w ↦ record {
    following = following_on c.args.checked.now.client c.args.ground.now c.args.limit c.args.store.now c.loop-k.store w.follow.new.store c.if-has_bit.store c.loop-k.origins.items w.follow.new.origins.items c.if-has_bit.origins.items
        c.args.number c.args.set c.loop-k.k w.actor_at-actor.result c.loop-k.invariant.following w.in_ok-new.ensures.on w.actor_at-actor.ensures w.in_ok-new.ensures.followed w.follow.ensures.room w.follow.ensures.client
        w.store-is (ap (λ (v : Vec Origin Global). v.items) w.origins-is);
    good = subst (λ (s : Sheet). AllGood c.args.checked.now.client s.states) (sym w.store-is) w.in_ok-new.ensures.good;
  }
  | else-has_bit w ↦ record {
    following = following_past c.args.checked.now.client c.args.ground.now c.args.limit c.args.store.now c.loop-k.store c.if-has_bit.store c.loop-k.origins.items c.if-has_bit.origins.items
        c.args.number c.args.set c.loop-k.k c.loop-k.invariant.following (sym w.if-has_bit.ensures) w.store-is (ap (λ (v : Vec Origin Global). v.items) w.origins-is);
    good = subst (λ (s : Sheet). AllGood c.args.checked.now.client s.states) (sym w.store-is) c.loop-k.invariant.good;
  }
]

pub follow-requires-clause-room : goal.follow-requires-clause-room
follow-requires-clause-room c = room_both c.args.ground.now _ _ _ _ _ _ c.loop-k.invariant.following.room c.requires.room (λ x y. let k = c.loop-k-test.true in omega (arith, x, y, k))

pub returns-clause-room : goal.returns-clause-room
returns-clause-room c = room_as c.args.ground.now _ _ _ _ c.loop-k.invariant.following.room (λ x. omega (arith, x))
