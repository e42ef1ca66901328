use Rattle.std.proofs.Common.{◌≡◌, ◌++◌, drop}
use Rattle.std.specs.String.{string_bytes}
use Rattle.std.specs.List.{flat_map}
use Rattle.tso_show.specs.Registers.{location_text}
use Rattle.tso_show.proofs.frame.push_locations.Given as goal

abbrev pub invariant-loop-location : goal.invariant-loop-location
invariant-loop-location l = string_bytes l.text ++ flat_map (location_text l.client l.running) (drop l.location-index l.locations) ≡ string_bytes l.fn.text ++ flat_map (location_text l.client l.running) l.locations
