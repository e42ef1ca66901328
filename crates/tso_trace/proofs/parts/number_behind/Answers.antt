use Rattle.std.proofs.Common.{List, ℕ, ◌++◌, ap, sym, ◌∙◌}
use Rattle.std.proofs.lemmas.List.{append_cancel_left}
use Rattle.tso_trace.proofs.LineLemmas.{outcome}
use Rattle.tso_trace.proofs.parts.number_behind.Goals as goal

pub returns : goal.returns
returns c =
    outcome c.number.result c.number.ensures
    (λ none n small is. none n small (append_cancel_left c.args.word.now _ _ (sym c.in_ok-behind.ensures ∙ is)))
    (λ n read. (read.0, c.in_ok-behind.ensures ∙ ap (λ (l : List ℕ). c.args.word.now ++ l) read.1))
