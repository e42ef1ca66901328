use Rattle.std.proofs.Common.{List, ℕ, ◌++◌, ap, sym, ◌∙◌}
use Rattle.std.proofs.lemmas.List.{append_cancel_left}
use Rattle.tso_trace.proofs.LineLemmas.{outcome}
use Rattle.tso_trace.proofs.reading.access_behind.Goals as goal

pub returns : goal.returns
returns c =
    outcome c.access.result c.access.ensures
    (λ none place word proper is. none place word proper (append_cancel_left c.args.verb.now _ _ (sym c.in_ok-behind.ensures ∙ is)))
    (λ r read. (read.0, c.in_ok-behind.ensures ∙ ap (λ (l : List ℕ). c.args.verb.now ++ l) read.1))
