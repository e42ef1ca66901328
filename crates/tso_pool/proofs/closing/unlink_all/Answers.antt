use Rattle.std.proofs.Common.{◌≡◌, ◌<◌, arith}
use Rattle.tso_pool.proofs.Unlinks.{none_parted, one_left, one_parted, may_part, none_left}
use Rattle.tso_pool.proofs.closing.unlink_all.Goals as goal

pub loop-left-init : goal.loop-left-init
loop-left-init g c = none_parted _ _ c.requires.reach

pub unlink-requires : goal.unlink-requires
unlink-requires g c =
    let some : 0 < c.loop-left.left = omega arith in
    may_part _ _ c.loop-left.leaver _ _ _ c.index-seats-left.result c.index-seats-left.result (one_left _ _ _ _ _ some c.loop-left.invariant) c.requires.reach c.requires.reached

pub loop-left-preserved : goal.loop-left-preserved
loop-left-preserved g c =
    let some : 0 < c.loop-left.left = omega arith in
    let made = c.unlink.ensures in
    one_parted _ _ c.unlink.new.one _ _ _ c.index-seats-left.result c.unlink.new.other (one_left _ _ _ _ _ some c.loop-left.invariant) c.requires.reach made.places.0 made.places.1 made.pushed made.listed made.found

pub returns : goal.returns
returns g c =
    let none : c.loop-left.left ≡ 0 = omega arith in
    let parted = none_left _ _ _ _ _ none c.loop-left.invariant in record {
      leaver = parted.leaver_is;
      seats = parted.seats_are;
      pushed = parted.pushed;
      listed = parted.list;
      found = parted.found;
    }
