use Rattle.std.proofs.Common.{ℕ, ◌<◌}
use Rattle.tso_client.specs.Clients.{IsPlacedAt, place_in}
use Rattle.tso_client.proofs.covering.are_placed.Given as goal

abbrev pub invariant-loop-i : goal.invariant-loop-i
invariant-loop-i l = (k : ℕ) → k < l.i → IsPlacedAt (place_in l.places) l.small l.large k
