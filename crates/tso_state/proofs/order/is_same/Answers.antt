use Rattle.std.proofs.Common.{rules}
use Rattle.tso_state.specs.contracts.exact.states.StateExact.TheImpl.Laws.{exact-law}
use Rattle.tso_state.proofs.order.is_same.Goals as goal

pub returns : goal.returns
returns c = search (rules, exact-law c.args.a.now c.args.b.now)
