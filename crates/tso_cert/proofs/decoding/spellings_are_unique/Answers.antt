use Rattle.tso_cert.proofs.Uniqueness.{unique}
use Rattle.tso_cert.proofs.decoding.spellings_are_unique.Goals as goal

pub returns : goal.returns
returns c = unique
