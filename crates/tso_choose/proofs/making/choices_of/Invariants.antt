use Rattle.std.proofs.Common.{◌≡◌, map, take}
use Rattle.tso_choose.specs.Choices.{choice_of}
use Rattle.tso_choose.proofs.making.choices_of.Given as goal

abbrev pub invariant-loop-actor : goal.invariant-loop-actor
invariant-loop-actor g l = l.choices ≡ map (choice_of l.checked.client l.table (g.S.Viewed.state l.state) l.chosen) (take l.actor-index l.chosen)
