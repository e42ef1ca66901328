use Rattle.tso_machine.proofs.PathRuns.{frames_stay_on_paths}
use Rattle.tso_machine.proofs.RunLaws.{frames_stay_sound}
use Rattle.tso_machine.proofs.laws.frames_stay_sound.Goals as goal

pub returns : goal.returns
returns c =
    let client = c.args.checked.now.client in
    record { sound = frames_stay_sound client c.args.checked.now.no_fault; paths = frames_stay_on_paths client c.args.checked.now.no_fault }
