use Rattle.tso_parts.proofs.Finding.{found_at}
use Rattle.tso_parts.proofs.pool.place_in_set.Goals as goal

pub returns-clause-found : goal.returns-clause-found
returns-clause-found g c = found_at _ g.met.T.Exact.exact c.args.items.now.keys c.args.item.now c.get_index_of.result c.get_index_of.ensures.index
