-- What comes of an upgrade, from what is written and what the check answers.
use Rattle.std.proofs.Common.{ℕ, List, sym, subst}
use Rattle.tso_check.specs.Upgrades.{HasRecords, IsNotUpgraded, IsUpgraded}
use Rattle.tso_check.specs.declared.upgrading.UpgradeError.{UpgradeError}
use Rattle.tsoq.specs.Upgraded.{IsRefusal, IsUpgrade, IsWritten}
use Rattle.tsoq.specs.declared.upgrade.Upgraded.{Upgraded}
use Rattle.tsoq.specs.declared.upgrade.Upgraded.TheVariants.{Refused, Written}

pub written_so : (text bytes anew : List ℕ) (count : ℕ) → IsUpgraded text bytes anew → HasRecords anew count → (u : Upgraded) → IsWritten anew count u → IsUpgrade text bytes u
written_so text bytes anew count is has (Written records taken) (same, counted) =
    (subst (IsUpgraded text bytes) (sym same) is, subst (λ b. HasRecords b records) (sym same) (subst (HasRecords anew) (sym counted) has))
written_so text bytes anew count is has (Refused verdict) w = absurd w

pub refused_so : (text bytes : List ℕ) (e : UpgradeError) → IsNotUpgraded text bytes e → (u : Upgraded) → IsRefusal e u → IsUpgrade text bytes u
refused_so text bytes e is (Written records taken) w = absurd w
refused_so text bytes e is (Refused verdict) same = subst (IsNotUpgraded text bytes) same is
