use Rattle.std.specs.Prelude.{All, take}
use Rattle.tso_check.proofs.numbered.are_kept_from.Given as goal
use Rattle.tso_check.specs.Numbered.{IsKeptFrom}
use Rattle.tso_choose.specs.declared.choice.Choice.{Choice}

abbrev pub invariant-loop-choice : goal.invariant-loop-choice
invariant-loop-choice l = All (λ (x : Choice). IsKeptFrom l.store.client l.store.states l.number x.actor) (take l.choice-index l.choices)
