use Rattle.tso_check.proofs.StoredLemmas.{stored_of, stored_verdict}
use Rattle.tso_check.proofs.WalkLemmas.{if_ok}
use Rattle.tso_check.proofs.deciding.verdict_on.Goals as goal
use Rattle.tso_check.specs.Spans.{IsVerdictOn}
use Rattle.tso_check.specs.Verdicts.{IsVerdict}

pub decide_stored-requires : goal.decide_stored-requires
decide_stored-requires c = stored_of c.args.checked.now.client c.args.bytes.now c.in-Some.scanned (rw c.in-Some.is at c.requires)

pub returns-in-Some : goal.returns-in-Some
returns-in-Some c =
    let client = c.args.checked.now.client in
    let bytes = c.args.bytes.now in
    let found = rw c.in-Some.is at c.requires in
    if_ok (IsVerdictOn client c.in-Some.scanned) (IsVerdict client bytes) c.decide_stored.result (λ v on. stored_verdict client bytes c.in-Some.scanned v found on) c.decide_stored.ensures
