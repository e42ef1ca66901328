use Rattle.tso_show.proofs.Joins.{three}
use Rattle.tso_show.proofs.state.push_read.Goals as goal

pub returns-in_ok-push_str-in-Read-2 : goal.returns-in_ok-push_str-in-Read-2
returns-in_ok-push_str-in-Read-2 c =
    rw c.in-Read.is (three _ _ _ _ _ _ _ c.in_ok-push_str-in-Read.ensures.bytes c.in_ok-push_origin-in-Read.ensures c.in_ok-push_str-in-Read-2.ensures.bytes)
