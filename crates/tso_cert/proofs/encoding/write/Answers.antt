use Rattle.tso_cert.proofs.WriteLemmas.{on_err}
use Rattle.tso_cert.proofs.encoding.write.Goals as goal
use Rattle.tso_list.proofs.BeginningLemmas.{beginning_of_none}

pub returns-in_err-waiting-clause-err : goal.returns-in_err-waiting-clause-err
returns-in_err-waiting-clause-err g c = on_err _ (beginning_of_none _ _)
