use Rattle.std.proofs.Common.{◌≡◌, ◌∙◌, Some, slice_get, sym, ap, rules}
use Rattle.tso_table.specs.declared.kept.Kept.{Kept}
use Rattle.tso_table.proofs.table.Table.kept.Goals as goal

pub returns-clause-leads : goal.returns-clause-leads
returns-clause-leads c =
    let i = c.self.inside in
    let k : Kept = record { state = c.in-Some.state; actors = c.in_ok-actors.actors } in
    let state : slice_get i.store.states c.args.place ≡ Some c.in-Some.state = search rules in
    let path : slice_get i.actors c.args.place ≡ Some c.in_ok-actors.actors = c.in-Some-get.ensures ∙ ap Some (sym c.in_ok-actors.ensures) in
    rw (← c.self.view_is) (c.self.invariant.1.kept c.args.place k (record { state = state; actors_at = path }))
