use Rattle.std.proofs.Common.{ℕ, ◌<◌}
use Rattle.tso_client.specs.Clients.{ArePlaced, place_in, places_of}
use Rattle.tso_client.proofs.covering.covers.Given as goal

abbrev pub invariant-loop-code : goal.invariant-loop-code
invariant-loop-code l = (k : ℕ) → k < l.code → ArePlaced (place_in (places_of k)) l.small l.large → ⊥
