use Rattle.std.proofs.Common.{◌∙◌, Some, ap, arith, length, subst, sym}
use Rattle.std.proofs.lemmas.Option.{slice_get-get_or}
use Rattle.std.specs.List.{each_same}
use Rattle.tso_keys.proofs.Listings.{listed_grows, next_listed}
use Rattle.tso_keys.specs.Listing.{IsListedAs}
use Rattle.tso_keys.specs.Numbers.{AreNumbersOf}
use Rattle.tso_keys.proofs.listing.listed_rows.Goals as goal

pub add_row-requires-clause-copied : goal.add_row-requires-clause-copied
add_row-requires-clause-copied c = λ x y copy. each_same x y copy

pub loop-history-preserved : goal.loop-history-preserved
loop-history-preserved c =
    let before = listed_grows c.loop-history.lists c.add_row.new.catalog c.args.width _ c.loop-history.rows.items c.add_row.ensures.extends c.loop-history.invariant in
    let at = slice_get-get_or c.args.histories.now c.loop-history.history-index c.history-item.result c.loop-history-test.true ∙ ap Some (sym c.history-item.is) in
    let same = c.threads-all.ensures in
    let long = ap length same in
    let one : IsListedAs c.add_row.new.catalog c.args.width c.history-item.result c.in_ok-near.near = record {
      numbers = subst (AreNumbersOf c.add_row.new.catalog c.in_ok-near.near) same c.in_ok-near.ensures.numbers;
      wide = c.in_ok-near.ensures.wide;
      threads = omega (arith, long, c.if-all-width.false);
    } in
    rw c.in_ok-push.ensures.items (next_listed c.add_row.new.catalog c.args.width c.args.histories.now c.loop-history.history-index c.loop-history.rows.items c.history-item.result c.in_ok-near.near before at one)
