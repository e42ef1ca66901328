use Rattle.std.proofs.Common.{◌∙◌, refl}
use Rattle.tso_scan.proofs.halves.half_of.Goals as goal
use Rattle.tso_keys.specs.Keys.{states_at}

pub returns : goal.returns
returns c = record {
  client = c.of_parts-states.ensures.client;
  states = c.of_parts-states.ensures.states ∙ (λ i. states_at (c.into_parts.ensures i) (c.into_vec.ensures i));
  rises = c.is_rising-rises.ensures.0;
  ends = refl;
  shape = refl;
  room = refl;
  behind = refl;
}
