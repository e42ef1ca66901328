use Rattle.tso_scan.proofs.TreeLemmas.{certificate_scanned, if_ok_some}
use Rattle.tso_scan.proofs.scanned.scan.Goals as goal
use Rattle.tso_scan.specs.Scanned.{IsScanned, IsScannedBehind}

pub returns-in-Some : goal.returns-in-Some
returns-in-Some c =
    let client = c.args.checked.now.client in
    let front = rw c.in-Some.is at c.in_ok-table.ensures in
    if_ok_some (IsScannedBehind client c.in-Some.table c.in-Some.rest.now) (IsScanned client c.args.bytes.now) c.scan_tree.result (λ s. certificate_scanned client c.args.bytes.now c.in-Some.rest.now c.in-Some.table s front) c.scan_tree.ensures
