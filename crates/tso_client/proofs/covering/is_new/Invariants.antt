use Rattle.std.proofs.Common.{◌≢◌, ℕ, ◌<◌}
use Rattle.tso_client.specs.Clients.{place_in}
use Rattle.tso_client.proofs.covering.is_new.Given as goal

abbrev pub invariant-loop-j : goal.invariant-loop-j
invariant-loop-j l = (k : ℕ) → k < l.j → place_in l.places k ≢ place_in l.places l.at
