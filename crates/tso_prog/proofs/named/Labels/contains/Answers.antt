use Rattle.std.proofs.Common.{ap, ◌∙◌}
use Rattle.std.specs.List.{list_any}
use Rattle.std.specs.Str.{bytes_eq}
use Rattle.tso_prog.specs.declared.named.Target.{Target}
use Rattle.tso_prog.proofs.named.Labels.contains.Goals as goal

-- src/named.rt:55:5
pub returns : goal.returns
returns c = c.contains.ensures ∙ c.self.invariant c.args.name.now ∙ ap (list_any (λ (l : Target). bytes_eq l.name.now c.args.name.now)) c.self.view_is
