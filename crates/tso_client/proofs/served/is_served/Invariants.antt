use Rattle.std.proofs.Common.{ℕ, ◌<◌, slice_index_or}
use Rattle.tso_client.specs.Clients.{ClientCovers}
use Rattle.tso_prog.specs.declared.client.Client.{Client}
use Rattle.tso_client.proofs.served.is_served.Given as goal

abbrev pub invariant-loop-large : goal.invariant-loop-large
invariant-loop-large l = (k : ℕ) → k < l.large-index → (d : Client) → ClientCovers l.asked (slice_index_or l.accepted k d) → ⊥
