use Rattle.std.proofs.Common.{◌≡◌, ◌<◌, ap, drop, rules, length, arith, vec_len}
use Rattle.tso_pool.proofs.Links.{added_places, added_tallies, may_link, written}
use Rattle.tso_pool.proofs.linking.add_seat.Goals as goal
use Rattle.std.proofs.lemmas.List.{length-map}
use Rattle.tso_pool.specs.Seats.{place_of}

pub link_all-requires : goal.link_all-requires
link_all-requires g c =
    let long = length-map c.args.seats.now.items (place_of {T = g.row.T.Denot}) in
    let same = ap length c.as_mut_slice.ensures.value in record {
      newcomer = (let mine = ap (λ h. h.parts) c.in_ok-seat.ensures.own in rw mine (omega (arith, c.requires.room)));
      seats = rw c.as_mut_slice.ensures.value (may_link _ c.requires.linked (omega (arith, c.requires.room)));
    }

pub returns : goal.returns
returns g c =
    let same = ap length c.as_mut_slice.ensures.value in
    let few : length c.args.seats.now.items < 64 = omega (arith, c.requires.room) in
    let long : length c.link_all.new.seats ≡ vec_len c.args.seats.now = omega (arith, c.link_all.auto.seats, c.as_mut_slice.ensures.len) in
    let back = written (vec_len c.args.seats.now) c.link_all.new.seats (drop (length c.link_all.new.seats) c.args.seats.now.items) long in
    let items = rw back at c.in_ok-push.ensures.items in
    let met = rw c.as_mut_slice.ensures.value at c.in_ok-link_all.ensures in record {
      count = search rules;
      linked = rw items (added_places c.args.seats.now.items c.link_all.new.seats c.in_ok-seat.seat c.link_all.new.newcomer c.in_ok-seat.ensures c.requires.linked few met.newcomer met.seats);
      tallies = rw items (added_tallies c.args.seats.now.items c.link_all.new.seats c.in_ok-seat.seat c.link_all.new.newcomer c.in_ok-seat.ensures met.tallies.0 met.tallies.1);
    }
