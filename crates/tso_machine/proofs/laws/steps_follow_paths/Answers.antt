use Rattle.tso_machine.proofs.Edges.{follow_edges, follow_paths, start_on_path}
use Rattle.tso_machine.proofs.laws.steps_follow_paths.Goals as goal

pub returns : goal.returns
returns c =
    let client = c.args.checked.now.client in
    record { starts = start_on_path client; edges = follow_edges client; paths = follow_paths client c.args.checked.now.no_fault }
