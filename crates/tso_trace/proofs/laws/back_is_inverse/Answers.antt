use Rattle.tso_trace.proofs.LawLemmas as laws
use Rattle.tso_trace.proofs.laws.back_is_inverse.Goals as goal

pub returns : goal.returns
returns c = laws.back_is_inverse
