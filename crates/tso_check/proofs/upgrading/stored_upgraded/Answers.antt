use Rattle.std.proofs.Common.{subst}
use Rattle.tso_cert.proofs.SeenLemmas.{if_both}
use Rattle.tso_cert.proofs.TreeCode.{certificate_take}
use Rattle.tso_cert.specs.Certificates.{Spells}
use Rattle.tso_check.proofs.UpgradeLemmas.{made_valid, same_anew}
use Rattle.tso_foot.specs.declared.table.Table.{Table}
use Rattle.tso_rec.specs.Bases.{by_steps}
use Rattle.tso_rec.specs.declared.basis.Grain.TheVariants.{Steps}
use Rattle.tso_check.proofs.upgrading.stored_upgraded.Goals as goal

pub returns-in-Arrays : goal.returns-in-Arrays
returns-in-Arrays c = λ tree reads is.
    let bytes = c.args.bytes.now in
    let found = certificate_take bytes (by_steps c.args.scanned.now.table, tree) reads in
    let spelled = subst (λ (t : Table). Spells bytes (by_steps t) tree) c.in-Arrays.is found.0 in
    let made = c.stored_anew.ensures tree found.0 is in
    if_both c.stored_anew.result (λ new so again. made_valid c.args.checked.now.client bytes new.items c.in-Arrays.field-0 tree c.requires.valid spelled found.1 so) made made

pub returns-in-Intervals : goal.returns-in-Intervals
returns-in-Intervals c = λ tree reads is.
    let bytes = c.args.bytes.now in
    let found = certificate_take bytes (by_steps c.args.scanned.now.table, tree) reads in
    let spelled = subst (λ (t : Table). Spells bytes (by_steps t) tree) c.in-Intervals.is found.0 in
    let same = c.from_slice.ensures.items in
    if_both c.from_slice.result (λ new so again. same_anew c.args.checked.now.client bytes new.items Steps c.in-Intervals.field-0 tree c.requires.valid spelled so) same same
