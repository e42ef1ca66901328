use Rattle.std.proofs.Common.{◌≡◌, All, vec_len}
use Rattle.tso_pool.specs.Seats.{no_tickets}
use Rattle.tso_pool.specs.Linked.{AreLinked, places, tallies}
use Rattle.tso_pool.proofs.linking.seats.Given as goal

abbrev pub invariant-loop-number : goal.invariant-loop-number
invariant-loop-number g l = record {
  count : vec_len l.seats ≡ l._number;
  linked : AreLinked (places l.seats.items);
  empty : All (λ t. t ≡ no_tickets) (tallies l.seats.items);
}
