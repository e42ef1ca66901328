use Rattle.std.proofs.lemmas.Map.Views.{Contains-from_any}
use Rattle.tso_fifo.specs.contracts.memory.KeyExact.TheImpl.Laws.{exact-law as key_exact}
use Rattle.tso_fifo.proofs.memory.remember.Goals as goal

pub returns-clause-added : goal.returns-clause-added
returns-clause-added c = Contains-from_any (λ x y. (key_exact x y).0) c.args.key c.insert.new.self.keys c.in_ok-insert.ensures.updates.1
