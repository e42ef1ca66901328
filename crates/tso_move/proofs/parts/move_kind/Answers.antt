use Rattle.std.proofs.Common.{◌≡◌, ◌∙◌, List, Option, ap, subst, sym, Some, None}
use Rattle.std.specs.Prelude.{IfOk}
use Rattle.std.specs.Option.{option_map}
use Rattle.tso_compact.specs.declared.sort.StepKind.{StepKind}
use Rattle.tso_move.proofs.PartLemmas.{begun_parts, stepped_parts}
use Rattle.tso_move.specs.Parts.{begun_in, begun_kinds, parts_of, part_kinds}
use Rattle.tso_prog.specs.Views.{call_view}
use Rattle.tso_move.proofs.parts.move_kind.Goals as goal

pub returns-in-None : goal.returns-in-None
returns-in-None g c =
    let s = g.S.Viewed.state c.args.state.now in
    let none : begun_in c.args.checked.now.client s c.args.actor ≡ None = sym c.begun_call.ensures ∙ ap (option_map call_view) c.in-None.is in
    c.stepped_kind.ensures ∙ sym (stepped_parts c.args.checked.now.client c.args.own.now s c.args.actor none)

pub returns-in-Some : goal.returns-in-Some
returns-in-Some g c =
    let s = g.S.Viewed.state c.args.state.now in
    let k = call_view c.in-Some.call in
    let client = c.args.checked.now.client in
    let begun : begun_in client s c.args.actor ≡ Some k = sym c.begun_call.ensures ∙ ap (option_map call_view) c.in-Some.is in
    let same : begun_kinds client c.args.own.now s c.thread.result k ≡ part_kinds client c.args.own.now s c.args.actor =
    ap (λ i. begun_kinds client c.args.own.now s i k) c.thread.ensures ∙ sym (begun_parts client c.args.own.now s c.args.actor k begun) in
    subst (λ (kinds : Option (List StepKind)). IfOk c.begun_kind.result (λ found. option_map parts_of found ≡ kinds)) same c.begun_kind.ensures
