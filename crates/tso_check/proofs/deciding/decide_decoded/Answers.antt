use Rattle.tso_cert.specs.Trees.{tree_of}
use Rattle.tso_check.proofs.VerdictLemmas.{of_fault, whole}
use Rattle.tso_check.proofs.WalkLemmas.{if_ok}
use Rattle.tso_check.proofs.deciding.decide_decoded.Goals as goal
use Rattle.tso_check.specs.Verdicts.{IsOfFault, IsTreeVerdict, IsVerdict}

pub returns-in-Ok : goal.returns-in-Ok
returns-in-Ok c =
    let client = c.args.checked.now.client in
    let bytes = c.args.bytes.now in
    let tree = tree_of c.in-Ok.tree in
    let found = c.in-Ok.ensures.found in
    if_ok (IsTreeVerdict client c.in-Ok.basis tree) (IsVerdict client bytes) c.decide_with_least-found.result (whole client bytes c.in-Ok.basis tree found.0 found.1) c.decide_with_least-found.ensures

pub returns-in-Err : goal.returns-in-Err
returns-in-Err c =
    let client = c.args.checked.now.client in
    let bytes = c.args.bytes.now in
    let found = c.in-Err.ensures in
    if_ok (IsOfFault c.in-Err.error) (IsVerdict client bytes) c.undecoded.result (of_fault client bytes c.in-Err.error found.exact found.passed found.beyond) c.undecoded.ensures

pub decide_with_least-found-requires : goal.decide_with_least-found-requires
decide_with_least-found-requires c = record { few = c.in-Ok.ensures.found.1.1 }
