use Rattle.tso_choose.proofs.ChoosingLemmas.{IsSurvey}
use Rattle.tso_choose.proofs.choosing.survey.Given as goal

abbrev pub invariant-loop-number : goal.invariant-loop-number
invariant-loop-number g l = IsSurvey l.checked.client (g.S.Viewed.state l.state) l.number l.kinds
