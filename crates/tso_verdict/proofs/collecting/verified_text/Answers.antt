use Rattle.std.proofs.Common.{subst, sym}
use Rattle.tso_client.specs.Headline.{IsVerified}
use Rattle.tso_verdict.proofs.collecting.verified_text.Goals as goal

pub verified-requires-clause-verified : goal.verified-requires-clause-verified
verified-requires-clause-verified c = subst IsVerified (sym c.in_ok-copy.ensures.items) c.requires
