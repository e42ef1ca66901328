use Rattle.tso_machine.specs.Places.{first_memory}
use Rattle.tso_machine.specs.Programs.{program_of}
use Rattle.tso_model.proofs.Partway as model
use Rattle.tso_compact.proofs.laws.ended_runs_end_alike.Goals as goal

pub returns : goal.returns
returns c = λ ls m run ended. model.ended_runs_end_alike (program_of c.args.checked.now.client) (first_memory c.args.checked.now.client.arrays) ls m run ended
