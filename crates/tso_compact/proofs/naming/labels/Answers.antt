use Rattle.tso_compact.proofs.NamingLemmas.{labels_run}
use Rattle.tso_compact.proofs.naming.labels.Goals as goal

pub returns-in_ok-named-in-Some-clause-run : goal.returns-in_ok-named-in-Some-clause-run
returns-in_ok-named-in-Some-clause-run c =
    labels_run c.args.checked.now.client c.args.state.now c.args.actor c.thread.result c.in-Some.motion c.in_ok-named-in-Some.field-0.items c.thread.ensures c.in_ok-named-in-Some.ensures
    c.in-Some.ensures.labels
