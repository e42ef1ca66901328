use Rattle.std.proofs.Common.{◌≡◌, ◌-◌, [], length, take}
use Rattle.tso_code.specs.Fields.{items_at}
use Rattle.tso_code.proofs.ItemLemmas.{with_front}
use Rattle.tso_code.proofs.code.read_fifteen.Given as goal

abbrev pub invariant-loop-i : goal.invariant-loop-i
invariant-loop-i g l = (length l.items ≡ 15) × (with_front (take l.i l.items) (items_at g.T.Code.read_at (15 - l.i) l.rest) ≡ items_at g.T.Code.read_at 15 l.bytes) × (l.bytes ≡ [] → (l.i ≡ 0) × (l.rest ≡ []))
