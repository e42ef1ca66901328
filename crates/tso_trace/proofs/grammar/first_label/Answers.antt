use Rattle.std.proofs.Common.{sym, ◌∙◌}
use Rattle.std.proofs.lemmas.Option.{none-some}
use Rattle.tso_trace.proofs.LineLemmas.{same_cut}
use Rattle.tso_trace.proofs.TextLemmas.{ended_parts, line_lacks}
use Rattle.tso_trace.proofs.grammar.first_label.Goals as goal

pub returns-in_err-label_of : goal.returns-in_err-label_of
returns-in_err-label_of c =
    rw c.from_residual-in_err-label_of.ensures
    (λ h.
    let same = same_cut 10 _ _ _ _ c.in_ok-line.ensures.first (line_lacks c.args.client.now h.label h.proper) (sym c.in_ok-line.ensures.parts ∙ h.begins ∙ ended_parts _ h.rest) in
    none-some h.label ((c.in_err-label_of.ensures h.label).1 (record { proper = h.proper; spelled = same.0 })))
