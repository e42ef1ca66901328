use Rattle.std.proofs.Common.{◌∙◌, arith}
use Rattle.tso_cert.proofs.TreeCode.{certificate_take}
use Rattle.tso_check.proofs.StoredLemmas.{shape_counts, stored_of}
use Rattle.tso_rec.specs.Bases.{by_steps}
use Rattle.tso_check.proofs.upgrading.upgraded.Goals as goal

pub stored_upgraded-requires-clause-stored : goal.stored_upgraded-requires-clause-stored
stored_upgraded-requires-clause-stored c = stored_of c.args.checked.now.client c.args.bytes.now c.in-Some.scanned (rw c.in-Some.is at c.requires.scanned)

pub len-requires : goal.len-requires
len-requires c =
    let stored = stored_of c.args.checked.now.client c.args.bytes.now c.in-Some.scanned (rw c.in-Some.is at c.requires.scanned) in
    let count = stored.count in
    let long = stored.long in
    let few = stored.few in
    omega (arith, count, long, few)

pub returns-in_ok-stored_upgraded-in-Some : goal.returns-in_ok-stored_upgraded-in-Some
returns-in_ok-stored_upgraded-in-Some c =
    let scanned = c.in-Some.scanned in
    let is = rw c.in-Some.is at c.requires.scanned in
    let found = certificate_take c.args.bytes.now (by_steps scanned.table, is.tree) is.reads in
    record {
      tree = is.tree;
      within = found.1;
      renewed = c.in_ok-stored_upgraded-in-Some.ensures is.tree is.reads is.scanned;
      counted = c.len.ensures ∙ shape_counts scanned.shape is.tree is.scanned.shape;
    }
