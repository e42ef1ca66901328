use Rattle.std.proofs.Common.{◌∙◌}
use Rattle.tso_state.proofs.OrderLemmas.{state_alike}
use Rattle.tso_rec.specs.Keeping.{record_of}
use Rattle.tso_rec.proofs.kept.Kept.compare.Goals as goal

pub returns : goal.returns
returns c = c.by_parts.ensures ∙ state_alike (record_of c.args.self.now).state c.args.state.now
