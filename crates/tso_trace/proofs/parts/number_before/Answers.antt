use Rattle.std.proofs.Common.{sym, ◌∙◌}
use Rattle.tso_trace.proofs.LineLemmas.{decimal_lacks, same_cut}
use Rattle.tso_trace.proofs.parts.number_before.Goals as goal

pub returns-in_err-number : goal.returns-in_err-number
returns-in_err-number c =
    rw c.from_residual-in_err-number.ensures
    (λ n rest small is.
    c.in_err-number.ensures n small
    (same_cut c.args.byte _ _ _ rest c.in_ok-digits.ensures.first (decimal_lacks c.args.byte n c.requires small) (sym c.in_ok-digits.ensures.parts ∙ is)).0)
