use Rattle.std.proofs.Common.{Ok, ap, refl}
use Rattle.tso_verdict.proofs.Accepting.{is_accepted}
use Rattle.tso_verdict.proofs.checking.verdict_on_parts.Goals as goal

pub returns : goal.returns
returns g c = record { headline = λ e. c.in_ok-verdict.ensures.headline (ap Ok (is_accepted _ c.in_ok-verdict.verdict refl e)) }
