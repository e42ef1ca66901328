use Rattle.std.proofs.Common.{◌≡◌, ◌-◌, []}
use Rattle.tso_code.specs.Fields.{items_at}
use Rattle.tso_code.proofs.ItemLemmas.{with_front}
use Rattle.tso_code.proofs.code.read_items.Given as goal

abbrev pub invariant-loop : goal.invariant-loop
invariant-loop g l = (with_front l.items.items (items_at g.T.Code.read_at (l.count - l.counter) l.rest) ≡ items_at g.T.Code.read_at l.count l.bytes) × (l.bytes ≡ [] → (l.counter ≡ 0) × (l.rest ≡ []))
