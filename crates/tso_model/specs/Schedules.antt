-- A run is determined by its schedule: whose turn it is, a core's or a buffer's, at each label.
use Rattle.std.specs.Prelude.{◌≡◌, ◌↔◌, List, [], ◌∷◌, map, Option, Some}
use Rattle.std.specs.Option.{option_and_then, option_map}
use Rattle.tso_model.specs.Labels.{By, Label, Machine, Run}
use Rattle.tso_model.specs.Offers.{actor_of, offer}
use Rattle.tso_model.specs.Programs.{Program}
use Rattle.tso_model.specs.Steps.{Actor, thread_of}

-- the labels that a schedule takes, and the machine after them
pub record Taken (F : Type 0) : Type 0 where
  pub labels : List Label
  pub machine : Machine F

-- the labels with this one before them
abbrev pub put_first : {F : Type 0} → Label → Taken F → Taken F
put_first l t = record { labels = l ∷ t.labels; machine = t.machine }

-- what the schedule takes from m on, if each actor has a label at its turn
abbrev pub taken : {F : Type 0} → Program F → List Actor → Machine F → Option (Taken F)
taken P [] m = Some (record { labels = []; machine = m })
taken P (a ∷ rest) m = option_and_then (λ n. option_map (put_first (By (thread_of a) n.kind)) (taken P rest n.machine)) (offer P m a)

-- labels are a run exactly where their actors, in order, take them
abbrev pub SchedulesAreRuns : Type 0 → Type 0
SchedulesAreRuns F = (P : Program F) (m m' : Machine F) (ls : List Label) →
    Run P m ls m' ↔ (taken P (map actor_of ls) m ≡ Some (record { labels = ls; machine = m' }))
