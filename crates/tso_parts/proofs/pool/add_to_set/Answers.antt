use Rattle.tso_parts.proofs.Distinct.{absent, inserted_extends}
use Rattle.tso_parts.proofs.Outcomes.{on_err}
use Rattle.tso_parts.proofs.pool.add_to_set.Goals as goal

pub returns-in_err-number-clause-absent : goal.returns-in_err-number-clause-absent
returns-in_err-number-clause-absent g c = on_err _ (absent _ g.met.T.Exact.exact c.args.items.now.keys c.args.item c.in_err-number.ensures.absent)

pub returns-then-len-lt-LIMIT-clause-extends : goal.returns-then-len-lt-LIMIT-clause-extends
returns-then-len-lt-LIMIT-clause-extends g c = inserted_extends c.args.items.now.keys _ c.args.item _ c.in_ok-number.ensures.keys
