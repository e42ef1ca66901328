use Rattle.tso_trace.proofs.ReadLemmas.{read_line}
use Rattle.tso_trace.proofs.grammar.bad_line.Goals as goal

pub loop-rest-preserved : goal.loop-rest-preserved
loop-rest-preserved c =
    let line = c.in-Some-first_label.ensures in
    read_line c.args.client.now.arrays c.args.text.now c.loop-rest.rest.now _ c.loop-rest.line c.in-Some-first_label._label c.loop-rest.invariant line.0 line.1
