use Rattle.std.proofs.Common.{◌≡◌, ◌-◌}
use Rattle.tso_code.specs.Fields.{items_at}
use Rattle.tso_code.proofs.ItemLemmas.{with_front}
use Rattle.tso_rec.proofs.told.Reader.read_parts.Given as goal

abbrev pub invariant-loop : goal.invariant-loop
invariant-loop g l = with_front l.parts (items_at g.T.Code.read_at (l.count - l.counter) l.rest) ≡ items_at g.T.Code.read_at l.count l.bytes
