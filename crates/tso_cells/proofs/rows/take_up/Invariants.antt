use Rattle.tso_cells.proofs.TakingUp.{IsTaking}
use Rattle.tso_cells.proofs.rows.take_up.Given as goal

abbrev pub invariant-loop-k : goal.invariant-loop-k
invariant-loop-k l = IsTaking l.growth l.initial.row l.row l.other l.k l.is_grown
