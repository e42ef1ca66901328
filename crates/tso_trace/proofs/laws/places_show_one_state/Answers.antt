use Rattle.tso_trace.proofs.LawLemmas as laws
use Rattle.tso_trace.proofs.laws.places_show_one_state.Goals as goal

pub returns : goal.returns
returns c = laws.places_show_one_state
