use Rattle.std.proofs.Common.{length}
use Rattle.tso_machine.proofs.Ranked.{ranked}
use Rattle.tso_machine.specs.Places.{first_memory}
use Rattle.tso_machine.specs.Programs.{program_of}
use Rattle.tso_machine.specs.Soundness.{is_sound_or_past_end, rank}
use Rattle.tso_model.proofs.Faults as model
use Rattle.tso_compact.proofs.laws.runs_reach_ends.Goals as goal

pub returns : goal.returns
returns c = λ ls m run.
    let client = c.args.checked.now.client in
    model.runs_reach_ends (program_of client) (length (first_memory client.arrays)) (is_sound_or_past_end client) (rank client) (ranked client) (first_memory client.arrays) ls m run
