-- What an answer has that is `Accepted`.
use Rattle.std.proofs.Common.{◌≡◌, Ok, Result}
use Rattle.tso_check.specs.declared.verdict.Verdict.{Verdict}
use Rattle.tso_check.specs.declared.verdict.Verdict.TheVariants.{Accepted}

pub is_accepted : {E : Type 0} (r : Result Verdict E) (v : Verdict) → r ≡ Ok v → r ≡ Ok Accepted → v ≡ Accepted
is_accepted r v e f = cc
