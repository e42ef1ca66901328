use Rattle.tso_fifo.proofs.Completing.{HasTried, open_count}
use Rattle.tso_fifo.specs.Search.{problem_of}
use Rattle.tso_fifo.proofs.search.Search.+extend.Given as goal

abbrev pub decreases-extend : goal.decreases-extend
decreases-extend l = open_count l.at.now.taken

abbrev pub invariant-loop-index : goal.invariant-loop-index
invariant-loop-index l = HasTried (problem_of l.self.queue l.self.history.now l.self.candidates.now) l.at l.fn.order l.order l.dead.keys l.index
