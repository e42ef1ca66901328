use Rattle.std.proofs.Common.{◌≡◌, [], rules}
use Rattle.tso_table.proofs.SoundLemmas.{sound_empty}
use Rattle.tso_table.proofs.table.Table.new.Goals as goal

pub invariant_of-result : goal.invariant_of-result
invariant_of-result c =
    let states : c.new.result.states ≡ [] = c.new.ensures.states in
    let actors : c.new-2.result ≡ [] = c.new-2.ensures in
    let slots : c.new-3.result.items ≡ [] = search rules in
    (c.new.ensures.client, rw (states, actors, slots) sound_empty)
