use Rattle.tso_print.proofs.Joins.{procedure_joins}
use Rattle.tso_print.proofs.client.push_procedure.Goals as goal

pub returns : goal.returns
returns c =
    let body = rw c.as_slice.ensures at c.in_ok-push_body.ensures in
    procedure_joins _ _ _ _ _ _ _ c.in_ok-push_str.ensures.bytes c.in_ok-push_str-2.ensures.bytes body c.in_ok-push_str-3.ensures.bytes
