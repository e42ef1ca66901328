use Rattle.tso_check.proofs.StoredLemmas.{stored_of, stored_verdict}
use Rattle.tso_check.proofs.WalkLemmas.{if_ok}
use Rattle.tso_check.proofs.deciding.verdict_read_with.Goals as goal
use Rattle.tso_check.specs.Spans.{IsVerdictOn}
use Rattle.tso_check.specs.Verdicts.{IsVerdict}
use Rattle.tso_scan.specs.Parts.{text_of}

pub decide_stored_with-found-requires-clause-stored : goal.decide_stored_with-found-requires-clause-stored
decide_stored_with-found-requires-clause-stored g c = λ k within. stored_of c.args.checked.now.client (text_of c.args.bytes.now c.args.more.now) c.in-Some.scanned (rw c.in-Some.is at c.in_ok-scanned.ensures)

pub returns-in-Some : goal.returns-in-Some
returns-in-Some g c =
    let client = c.args.checked.now.client in
    let bytes = text_of c.args.bytes.now c.args.more.now in
    let found = rw c.in-Some.is at c.in_ok-scanned.ensures in
    if_ok (IsVerdictOn client c.in-Some.scanned) (IsVerdict client bytes) c.decide_stored_with-found.result (λ v on. stored_verdict client bytes c.in-Some.scanned v found on) c.decide_stored_with-found.ensures
