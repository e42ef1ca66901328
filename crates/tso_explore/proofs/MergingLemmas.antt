-- States that tables have are met.
use Rattle.std.proofs.Common.{map}
use Rattle.tso_prog.specs.declared.client.Client.{Client}
use Rattle.tso_search.specs.Reached.{IsMet}
use Rattle.tso_state.specs.Actors.{actor_of}
use Rattle.tso_table.specs.Leading.{IsKept, actors_of}
use Rattle.tso_table.specs.declared.kept.Kept.{Kept}

pub kept_is_met : (c : Client) (k : Kept) → IsKept c k → IsMet c k.state
kept_is_met c k kept = record { reached = (map actor_of (actors_of k.actors), kept.leads); plausible = kept.plausible }
