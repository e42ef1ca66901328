use Rattle.std.proofs.Common.{sym, ◌∙◌}
use Rattle.tso_rec.proofs.FrontLemmas.{nothing_read}
use Rattle.tso_rec.proofs.kept.Kept.read.Goals as goal

pub returns-then-is_empty-clause-read : goal.returns-then-is_empty-clause-read
returns-then-is_empty-clause-read c = nothing_read c.args.grain c.args.bytes.now (sym c.is_empty.ensures ∙ c.if-is_empty.true)
