use Rattle.std.proofs.Common.{Ok, ap}
use Rattle.tso_verdict.proofs.collecting.by_certificate.Goals as goal

pub verified_text-requires : goal.verified_text-requires
verified_text-requires g c = c.in_ok-verdict.ensures.headline (ap Ok c.in-Accepted.is)
