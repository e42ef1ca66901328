-- Places in a line.
use Rattle.std.specs.Prelude.{ℕ, ◌<◌, ◌≤◌, List, length}
use Rattle.tso_source.specs.declared.place.Place.{Place}

-- some bytes of the line
abbrev pub IsPlaceIn : List ℕ → Place → Type 0
IsPlaceIn line place = (place.start < place.end) × (place.end ≤ length line)
