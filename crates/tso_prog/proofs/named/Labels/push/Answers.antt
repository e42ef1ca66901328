use Rattle.std.proofs.Common.{rules, refl, sym, ◌∙◌, ◌≡◌, ap}
use Rattle.std.specs.List.{list_any}
use Rattle.std.specs.Str.{bytes_eq}
use Rattle.std.specs.BTreeSet.{insert_key}
use Rattle.std.specs.Cmp.Lexicographic.{slice_cmp}
use Rattle.std.specs.Ordering.{nat_cmp}
use Rattle.tso_prog.specs.declared.named.Target.{Target}
use Rattle.tso_prog.proofs.Names.{more_are_named}
use Rattle.tso_prog.proofs.named.Labels.push.Goals as goal

pub invariant_of-self-else-is_err : goal.invariant_of-self-else-is_err
invariant_of-self-else-is_err c name =
    let keys : c.insert.new.self.keys ≡ insert_key (λ x y. slice_cmp nat_cmp x.now y.now) c.self.inside.names.keys c.args.target.name = search rules in
    more_are_named (λ k. k.now) c.self.inside.names c.insert.new.self c.self.inside.targets.items c.args.target.name c.args.target refl c.self.invariant keys name ∙ ap (list_any (λ (l : Target). bytes_eq l.name.now name)) (sym c.in_ok-push.ensures.items)
