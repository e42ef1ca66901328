use Rattle.std.proofs.Common.{◌∙◌, refl, sym}
use Rattle.std.proofs.lemmas.Bool.{false≢true}
use Rattle.tso_check.proofs.StoredLemmas.{all_whole, initial_missing, table_not_closed}
use Rattle.tso_check.proofs.stored.stored_fault.Goals as goal

pub returns-then-not-is_closed : goal.returns-then-not-is_closed
returns-then-not-is_closed c = table_not_closed c.args.checked.now.client c.args.scanned.now c.requires.stored.rising (λ d. false≢true (c.if-not-is_closed.ensures.1 d))

pub returns-then-not-branch : goal.returns-then-not-branch
returns-then-not-branch c =
    initial_missing c.args.checked.now.client c.args.scanned.now c.requires.stored.rising (c.if-not-is_closed.ensures.0 refl) (λ h. false≢true (sym c.if-not-branch.true ∙ c.in_ok-has_initial.ensures.1 h))

pub returns : goal.returns
returns c = all_whole c.args.checked.now.client c.args.scanned.now c.requires.stored.rising (c.if-not-is_closed.ensures.0 refl) (c.in_ok-has_initial.ensures.0 c.if-not-branch.false)
