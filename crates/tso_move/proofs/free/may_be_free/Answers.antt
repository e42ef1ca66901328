use Rattle.std.proofs.Common.{◌∙◌, ◌∷◌, [], ap, sym}
use Rattle.tso_compact.specs.declared.sort.StepKind.TheVariants as kinds
use Rattle.tso_move.proofs.FreeLemmas.{begin_is_free}
use Rattle.tso_move.specs.Free.{is_free_of}
use Rattle.tso_prog.specs.Views.{call_view}
use Rattle.tso_move.proofs.free.may_be_free.Goals as goal

pub returns-in-Some : goal.returns-in-Some
returns-in-Some g c =
    let client = c.args.checked.now.client in
    let table = c.args.table.now in
    let s = g.S.Viewed.state c.args.state.now in
    λ own free. c.is_free.ensures ∙ ap (λ i. is_free_of client table s i (kinds.Call ∷ [])) c.thread.ensures ∙ begin_is_free client own table s c.args.actor (call_view c.in-Some.field-0) (sym c.in-Some.ensures) free
