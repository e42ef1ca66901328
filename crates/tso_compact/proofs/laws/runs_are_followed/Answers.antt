use Rattle.tso_machine.specs.Activations.{Activation}
use Rattle.tso_machine.specs.Places.{first_memory}
use Rattle.tso_machine.specs.Programs.{program_of}
use Rattle.tso_model.proofs.Follow as model
use Rattle.tso_compact.proofs.laws.runs_are_followed.Goals as goal

pub returns : goal.returns
returns c = λ ls m run. model.runs_are_followed Activation (program_of c.args.checked.now.client) (first_memory c.args.checked.now.client.arrays) ls m run
