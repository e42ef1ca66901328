use Rattle.std.proofs.Common.{◌∙◌, ℕ, List, length, refl, subst}
use Rattle.tso_regions.proofs.ConclusionLemmas.{gathered_searched, listed, searched_as}
use Rattle.tso_regions.specs.Gathering.{AreAllTaken, AreSettledBetween, IsBegunAt}
use Rattle.tso_regions.specs.Regions.{Domain}
use Rattle.tso_regions.proofs.searching.concluded.Goals as goal

pub finished-requires-clause-differ : goal.finished-requires-clause-differ
finished-requires-clause-differ g c =
    let regions = c.args.regions.items in
    let client = c.args.checked.now.client in
    let realm = g.U.Realm.client in
    let tables = g.U.Realm.table in
    let settled = subst (λ (ds : List Domain). AreSettledBetween realm tables (length ds) ds 0 (length ds)) c.as_slice.ensures.value (c.in-Ok-true.ensures.settled c.in-Ok-true.field-0-test) in
    let taken = subst (λ (k : ℕ). AreAllTaken client k regions c.in-Some.gathered) (c.len-count.ensures ∙ c.args.regions.ok.0) (rw c.in-Some.is at c.in_ok-gathered.ensures) in
    (taken.gathered (listed realm tables client c.args.table.now (length regions) regions c.requires.client c.requires.table settled)).differ

pub returns-in-Some-clause-searched : goal.returns-in-Some-clause-searched
returns-in-Some-clause-searched g c =
    let regions = c.args.regions.items in
    let client = c.args.checked.now.client in
    let realm = g.U.Realm.client in
    let tables = g.U.Realm.table in
    let settled = subst (λ (ds : List Domain). AreSettledBetween realm tables (length ds) ds 0 (length ds)) c.as_slice.ensures.value (c.in-Ok-true.ensures.settled c.in-Ok-true.field-0-test) in
    let begun = subst (IsBegunAt client) c.as_slice.ensures.value (c.in-Ok-true.ensures.begun c.in-Ok-true.field-0-test) in
    let taken = subst (λ (k : ℕ). AreAllTaken client k regions c.in-Some.gathered) (c.len-count.ensures ∙ c.args.regions.ok.0) (rw c.in-Some.is at c.in_ok-gathered.ensures) in
    let all = taken.gathered (listed realm tables client c.args.table.now (length regions) regions c.requires.client c.requires.table settled) in
    searched_as client c.args.table.now c.in-Some.gathered.states c.finished.result c.finished.ensures.states
    (gathered_searched realm tables client c.args.table.now (length regions) regions c.in-Some.gathered.states c.requires.client c.requires.table refl settled begun all taken.first)
