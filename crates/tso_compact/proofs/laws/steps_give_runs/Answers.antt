use Rattle.tso_compact.specs.Laws.{initial_of}
use Rattle.tso_machine.specs.Places.{first_memory}
use Rattle.tso_machine.specs.Programs.{program_of}
use Rattle.tso_model.proofs.Follow.{first_shaped}
use Rattle.tso_model.proofs.Leaves as model
use Rattle.tso_compact.proofs.laws.steps_give_runs.Goals as goal

pub returns : goal.returns
returns c = λ actors t steps.
    let client = c.args.checked.now.client in
    let p = program_of client in
    let (ls, run, history, shaped) = model.steps_give_runs p (initial_of client) actors t (first_shaped p (first_memory client.arrays)) steps in
    (ls, record { run = run; history = history })
