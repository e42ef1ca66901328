use Rattle.tso_crossing.proofs.Crossings as lemmas
use Rattle.tso_crossing.proofs.late_ends_are_met.Goals as goal

pub returns : goal.returns
returns g c = lemmas.late_ends_are_met _
