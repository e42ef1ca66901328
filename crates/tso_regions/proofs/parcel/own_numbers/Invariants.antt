use Rattle.std.proofs.Common.{◌≡◌}
use Rattle.tso_keys.specs.Keys.{states_at}
use Rattle.tso_regions.specs.Gathering.{owned_below}
use Rattle.tso_regions.proofs.parcel.own_numbers.Given as goal

abbrev pub invariant-loop-number : goal.invariant-loop-number
invariant-loop-number l = l.numbers.items ≡ owned_below l.owner.count l.owner.number (states_at l.parts l.keys) l.number
