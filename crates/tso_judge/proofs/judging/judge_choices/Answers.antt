use Rattle.std.proofs.Common.{◌∙◌, refl, sym}
use Rattle.std.proofs.lemmas.Bool.{false≢true}
use Rattle.tso_judge.proofs.JudgeLemmas.{no_reasons}
use Rattle.tso_judge.proofs.judging.judge_choices.Goals as goal
use Rattle.tso_rec.specs.Bases.{by_steps}
use Rattle.tso_rec.specs.declared.record.End.TheVariants as ends

pub returns-then-not-branch : goal.returns-then-not-branch
returns-then-not-branch g c =
    let movers = rw c.as_slice-choices.ensures at (c.if-not-are_movers.ensures.0 refl) in
    let reasons = rw c.as_slice-choices.ensures at c.in_ok-have_reasons.ensures in
    no_reasons c.args.checked.now.client (by_steps c.args.table.now) (Unit {0}) (Unit {0}) (g.S.Viewed.state c.args.state.now) (ends.Choices c.args.choices.now) c.requires movers
    (λ h. absurd (false≢true (sym c.if-not-branch.true ∙ reasons.1 h)))
