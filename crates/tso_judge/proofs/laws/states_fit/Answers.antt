use Rattle.std.proofs.Common.{arith}
use Rattle.tso_judge.proofs.Fitting.{states_fit}
use Rattle.tso_judge.proofs.laws.states_fit.Goals as goal

pub returns : goal.returns
returns c = states_fit c.args.checked.now.client c.steps_give_runs.ensures c.runs_are_short.ensures (omega (arith, c.step_limit-limit.type_inv, c.step_limit-limit.ensures))
