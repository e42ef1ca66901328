use Rattle.std.proofs.Common.{◌≡◌, take}
use Rattle.tso_choose.specs.Choices.{actors_of}
use Rattle.tso_judge.proofs.reasons.actors_of.Given as goal

abbrev pub invariant-loop-choice : goal.invariant-loop-choice
invariant-loop-choice l = l.actors ≡ actors_of (take l.choice-index l.choices)
