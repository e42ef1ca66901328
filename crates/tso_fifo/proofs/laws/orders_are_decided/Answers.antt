use Rattle.tso_fifo.proofs.Decided as lemmas
use Rattle.tso_fifo.proofs.laws.orders_are_decided.Goals as goal

pub returns : goal.returns
returns c = lemmas.orders_are_decided
