use Rattle.tso_trace.proofs.AccessLemmas.{shown_cell}
use Rattle.tso_trace.proofs.laws.cells_are_named.Goals as goal

pub returns : goal.returns
returns c number index place a found is = shown_cell c.args.client.now.arrays number index place a found is
