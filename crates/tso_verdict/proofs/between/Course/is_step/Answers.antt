use Rattle.std.proofs.Common.{◌∙◌, ap, sym}
use Rattle.std.proofs.lemmas.Option.{none-some}
use Rattle.std.specs.Option.{option_map}
use Rattle.tso_prog.specs.Views.{call_view}
use Rattle.tso_verdict.proofs.between.Course.is_step.Goals as goal

pub returns-in-None : goal.returns-in-None
returns-in-None c = sym c.begun_call.ensures ∙ ap (option_map call_view) c.in-None.is

pub returns-in-Some : goal.returns-in-Some
returns-in-Some c = λ none. none-some _ (sym none ∙ sym c.begun_call.ensures ∙ ap (option_map call_view) c.in-Some.is)
