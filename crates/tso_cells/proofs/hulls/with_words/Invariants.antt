use Rattle.tso_cells.proofs.HullLemmas.{IsTakingWords}
use Rattle.tso_cells.proofs.hulls.with_words.Given as goal

abbrev pub invariant-loop-k : goal.invariant-loop-k
invariant-loop-k l = IsTakingWords l.row l.words l.after l.k
