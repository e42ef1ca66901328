use Rattle.std.proofs.Common.{◌≡◌, ◌∙◌, List, ap, get_or, subst, sym}
use Rattle.std.proofs.Math.Seq.{map-set_same}
use Rattle.tso_pool.specs.Linked.{AreLinked}
use Rattle.tso_pool.specs.Seats.{Place, place_of}
use Rattle.tso_cases.proofs.ticket.offer_first.Goals as goal

pub returns-in_ok-offer_all : goal.returns-in_ok-offer_all
returns-in_ok-offer_all c =
    let items = c.args.row.now.items in
    let seat = c.offer_all.new.seat in
    let first = c.in-Some.seat.now in
    let item = c.in-Some.ensures.item in
    let same : place_of seat ≡ place_of (get_or items 0 first) = c.offer_all.ensures ∙ ap place_of item.1 in
    let P : List Place → Type 0 = λ ps. AreLinked ps in
    subst P (sym (map-set_same place_of items 0 seat first same)) c.requires
