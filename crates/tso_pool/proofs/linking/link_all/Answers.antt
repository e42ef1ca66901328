use Rattle.std.proofs.Common.{arith}
use Rattle.tso_pool.proofs.Meeting.{none_met, one_met, all_met, may_meet}
use Rattle.tso_pool.proofs.linking.link_all.Goals as goal

pub loop-seat-init : goal.loop-seat-init
loop-seat-init g c = none_met _ _

pub link-requires : goal.link-requires
link-requires g c = may_meet _ _ _ _ _ _ c.loop-seat.invariant (omega arith) c.requires.newcomer c.requires.seats

pub loop-seat-preserved : goal.loop-seat-preserved
loop-seat-preserved g c =
    one_met _ _ c.link.new.one _ _ _ _ c.link.new.other c.loop-seat.invariant (omega arith) c.in_ok-link.ensures.places.0 c.in_ok-link.ensures.places.1 c.in_ok-link.ensures.tallies.0 c.in_ok-link.ensures.tallies.1

pub returns : goal.returns
returns g c =
    let m = all_met _ _ _ _ _ c.loop-seat.invariant (omega arith) in record {
      newcomer = m.newcomer_is;
      seats = m.seats_are;
      tallies = (m.tally, m.others_tallies);
    }
