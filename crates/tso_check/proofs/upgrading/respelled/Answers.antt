use Rattle.std.proofs.Common.{◌≡◌, subst}
use Rattle.tso_cert.proofs.SeenLemmas.{if_both}
use Rattle.tso_cert.specs.Certificates.{Spells}
use Rattle.tso_cert.specs.Trees.{tree_of}
use Rattle.tso_check.proofs.UpgradeLemmas.{made_valid, same_anew}
use Rattle.tso_foot.specs.declared.table.Table.TheVariants.{Arrays, Intervals}
use Rattle.tso_rec.specs.Bases.{basis, by_steps}
use Rattle.tso_rec.specs.declared.basis.Basis.{Basis}
use Rattle.tso_check.proofs.upgrading.respelled.Goals as goal

pub returns-in-Steps : goal.returns-in-Steps
returns-in-Steps c =
    let bytes = c.args.bytes.now in
    let tree = tree_of c.args.tree.now in
    let same : c.args.basis.now ≡ by_steps (Arrays c.in-Arrays.field-0) = λ i. basis (c.in-Steps.is i) (c.in-Arrays.is i) in
    let spelled = subst (λ (b : Basis). Spells bytes b tree) same c.requires.spelled.0 in
    let made = c.spelled_anew.ensures in
    if_both c.spelled_anew.result (λ new so again. made_valid c.args.checked.now.client bytes new.items c.in-Arrays.field-0 tree c.requires.valid spelled c.requires.spelled.1 so) made made

pub returns-in-Intervals : goal.returns-in-Intervals
returns-in-Intervals c =
    let bytes = c.args.bytes.now in
    let tree = tree_of c.args.tree.now in
    let grain = c.args.basis.now.grain in
    let same : c.args.basis.now ≡ basis grain (Intervals c.in-Intervals.field-0) = λ i. basis grain (c.in-Intervals.is i) in
    let spelled = subst (λ (b : Basis). Spells bytes b tree) same c.requires.spelled.0 in
    let copied = c.from_slice.ensures.items in
    if_both c.from_slice.result (λ new so again. same_anew c.args.checked.now.client bytes new.items grain c.in-Intervals.field-0 tree c.requires.valid spelled so) copied copied
