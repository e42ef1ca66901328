use Rattle.tso_explore.proofs.FirstLemmas.{trace_of_shorter}
use Rattle.tso_explore.proofs.exploring.short_trace.Goals as goal

pub returns : goal.returns
returns c = trace_of_shorter c.args.checked.now.client c.in_ok-trace.trace c.shortened.result c.shortened.ensures
