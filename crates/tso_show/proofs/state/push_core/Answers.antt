use Rattle.tso_show.proofs.Joins.{three}
use Rattle.tso_show.proofs.state.push_core.Goals as goal

pub returns-in_ok-push_str-in-Running-2 : goal.returns-in_ok-push_str-in-Running-2
returns-in_ok-push_str-in-Running-2 c =
    rw c.in-Running.is (three _ _ _ _ _ _ _ c.in_ok-push_str-in-Running.ensures.bytes c.in_ok-push_frame-in-Running.ensures c.in_ok-push_str-in-Running-2.ensures.bytes)
