use Rattle.tso_rec.specs.Bases.{by_steps}
use Rattle.tso_scan.proofs.PartLemmas.{front_of_text}
use Rattle.tso_scan.proofs.TreeLemmas.{certificate_scanned, if_ok_some}
use Rattle.tso_scan.proofs.scanned.scan_with.Goals as goal
use Rattle.tso_scan.specs.Parts.{text_of}
use Rattle.tso_scan.specs.Scanned.{IsScanned, IsScannedBehind}

pub returns-in-Some : goal.returns-in-Some
returns-in-Some g c =
    let client = c.args.checked.now.client in
    let whole = text_of c.args.bytes.now c.args.more.now in
    let behind = text_of c.in-Some.rest.now c.args.more.now in
    let first = rw c.in-Some.is at c.in_ok-table.ensures in
    let front = front_of_text c.args.bytes.now c.in-Some.rest.now c.args.more.now (by_steps c.in-Some.table) first in
    if_ok_some (IsScannedBehind client c.in-Some.table behind) (IsScanned client whole) c.scan_tree_with.result (λ s. certificate_scanned client whole behind c.in-Some.table s front) c.scan_tree_with.ensures
