use Rattle.std.proofs.Common.{sym, subst, ◌∙◌}
use Rattle.tso_line.specs.Lines.{view}
use Rattle.tso_prog.specs.Contents.{Content}
use Rattle.tso_prog.specs.Content.{content}
use Rattle.tso_prog.specs.Limited.{IsLimited, IsPrintable}
use Rattle.tso_prog.proofs.Keeping.{limited_after}
use Rattle.tso_prog.proofs.Printing.{printable_after}
use Rattle.tso_prog.proofs.text.add_line.Goals as goal

pub returns-clause-limited : goal.returns-clause-limited
returns-clause-limited c =
    let Q : Content → Type 0 = λ x. IsLimited x in
    subst Q (sym c.in_ok-take.ensures) (limited_after (content c.args.draft.now) c.in-Some.first.now.line (view c.in_ok-line.line) c.requires.limited c.in_ok-line.ensures.proper (sym c.fault.ensures ∙ c.in_default-fault.is))

pub returns-clause-printable : goal.returns-clause-printable
returns-clause-printable c =
    let Q : Content → Type 0 = λ x. IsPrintable x in
    subst Q (sym c.in_ok-take.ensures) (printable_after (content c.args.draft.now) c.in-Some.first.now.line (view c.in_ok-line.line) c.requires.printable c.in_ok-line.ensures.proper (sym c.fault.ensures ∙ c.in_default-fault.is))
