use Rattle.std.proofs.Common.{◌∙◌}
use Rattle.tso_list.proofs.Cutting.{length-cut}
use Rattle.tso_list.proofs.paths.Paths.len.Goals as goal

pub returns : goal.returns
returns c = rw (← c.self.view_is, length-cut) (c.len.ensures ∙ c.self.inside.ends.ok.0)
