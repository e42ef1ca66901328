-- Runs that a text spells, whether something is wrong in them or not.
use Rattle.std.specs.Prelude.{◌≡◌, ℕ, List}
use Rattle.tso_machine.specs.declared.label.Label.{Label}
use Rattle.tso_prog.specs.declared.client.Client.{Client}
use Rattle.tso_show.specs.declared.replayed.Replayed.{Replayed}
use Rattle.tso_show.specs.declared.replayed.Replayed.TheVariants as replayed
use Rattle.tso_trace.specs.Grammar.{IsTextOf}
use Rattle.tso_trace.specs.Runs.{IsGoodRun, IsRun}

abbrev pub labels_in : Replayed → List Label
labels_in (replayed.Erring trace) = trace.labels
labels_in (replayed.Good labels) = labels.items

-- the text spells a run in which nothing is wrong
pub record SpellsGoodRun (c : Client) (text : List ℕ) (labels : List Label) : Type 0 where
  pub spelled : IsTextOf c.arrays text labels
  pub run : IsRun c labels
  pub good : IsGoodRun c labels

-- the text spells an error trace, as each trace is one, or a good run
abbrev pub IsReplayed : Client → List ℕ → Replayed → Type 0
IsReplayed c text (replayed.Erring trace) = (trace.checked.client ≡ c) × IsTextOf c.arrays text trace.labels
IsReplayed c text (replayed.Good labels) = SpellsGoodRun c text labels.items
