use Rattle.tso_state.specs.contracts.state.StateHash.TheImpl.Laws as laws
use Rattle.tso_state.proofs.order.equal_states_hash_alike.Goals as goal

pub returns : goal.returns
returns c = laws.respects_eq-law
