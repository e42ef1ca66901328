use Rattle.tso_cells.proofs.TestLemmas.{lie_behind}
use Rattle.tso_cells.proofs.places.lie_at.Goals as goal

pub returns-in-None : goal.returns-in-None
returns-in-None c = lie_behind c.args.items.now c.args.position c.args.words.now c.in-None.ensures.lookup.3 c.told-words
