use Rattle.std.proofs.Common.{None, Some}
use Rattle.tso_parts.proofs.Finding.{found_at}
use Rattle.tso_parts.proofs.Marked.{numbered_more, put_extends, put_number}
use Rattle.tso_parts.proofs.Outcomes.{on_err}
use Rattle.tso_parts.proofs.pool.add_to_list.Goals as goal

pub returns-in-Some-clause-number : goal.returns-in-Some-clause-number
returns-in-Some-clause-number g c = found_at _ g.met.T.Exact.exact c.args.items.now c.args.item (Some c.in-Some.place) c.in-Some.ensures.place

pub returns-then-count-ge-LIMIT-clause-absent : goal.returns-then-count-ge-LIMIT-clause-absent
returns-then-count-ge-LIMIT-clause-absent g c = found_at _ g.met.T.Exact.exact c.args.items.now c.args.item None c.in_default.ensures.place

pub returns-in_err-push-clause-absent : goal.returns-in_err-push-clause-absent
returns-in_err-push-clause-absent g c = on_err _ (found_at _ g.met.T.Exact.exact c.args.items.now c.args.item None c.in_default.ensures.place)

pub returns-clause-number : goal.returns-clause-number
returns-clause-number g c = put_number c.args.items.now _ c.args.item c.len-count.result c.in_ok-push.ensures.ok c.len-count.ensures

pub returns-clause-extends : goal.returns-clause-extends
returns-clause-extends g c = put_extends c.args.items.now _ c.args.item c.in_ok-push.ensures.ok

pub returns-clause-numbered : goal.returns-clause-numbered
returns-clause-numbered g c = rw c.in_ok-push.ensures.ok (numbered_more c.args.items.now c.args.item c.requires.numbered (found_at _ g.met.T.Exact.exact c.args.items.now c.args.item None c.in_default.ensures.place))
