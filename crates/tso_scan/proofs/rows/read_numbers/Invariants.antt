use Rattle.tso_scan.proofs.RowLemmas.{IsReadTo}
use Rattle.tso_scan.proofs.rows.read_numbers.Given as goal

abbrev pub invariant-loop-place : goal.invariant-loop-place
invariant-loop-place g l = IsReadTo g.T.Code.read_at l.fn.scroll l.scroll l.count l.place l.numbers l.bytes l.rest
