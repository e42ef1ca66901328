use Rattle.std.proofs.Common.{◌≡◌, drop, ap, rules, arith, length, vec_len}
use Rattle.tso_pool.proofs.Links.{written}
use Rattle.tso_pool.proofs.Closes.{closes, may_close, none_left_over, none_are_linked}
use Rattle.tso_pool.proofs.closing.close_last.Goals as goal

pub unlink_all-requires : goal.unlink_all-requires
unlink_all-requires g c =
    let may = may_close c.args.seats.now.items c.pop.new.self.items c.in_ok-seat.seat c.in_ok-seat.ensures.items c.requires in
    rw c.as_mut_slice.ensures.value (record { reach = may.0; reached = may.1 })

pub returns-in_err-seat : goal.returns-in_err-seat
returns-in_err-seat g c =
    let old : length c.args.seats.now.items ≡ 0 = search rules in
    let new : length c.pop.new.self.items ≡ 0 = search rules in
    let none = none_left_over c.pop.new.self.items new in
    rw c.from_residual.ensures (record { linked = none_are_linked _ none; closed = (none_left_over _ old, none) })

pub returns : goal.returns
returns g c =
    let same = ap length c.as_mut_slice.ensures.value in
    let long : length c.unlink_all.new.seats ≡ vec_len c.pop.new.self = omega (arith, c.unlink_all.auto.seats, c.as_mut_slice.ensures.len) in
    let back = written (vec_len c.pop.new.self) c.unlink_all.new.seats (drop (length c.unlink_all.new.seats) c.pop.new.self.items) long in
    let made = rw c.as_mut_slice.ensures.value at c.unlink_all.ensures in
    let all = closes c.args.seats.now.items c.pop.new.self.items c.unlink_all.new.seats c.in_ok-seat.seat c.unlink_all.new.leaver c.left.result c.in_ok-seat.ensures.items c.requires
    (record { leaver_is = made.leaver; seats_are = made.seats; pushed = made.pushed; list = made.listed; found = made.found }) c.left.ensures.left in
    rw back (record { linked = all.0; closed = (all.1, search rules) })
