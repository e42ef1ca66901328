use Rattle.std.proofs.Common.{◌≡◌, ◌-◌, []}
use Rattle.tso_code.specs.Fields.{items_at}
use Rattle.tso_code.proofs.ItemLemmas.{with_front}
use Rattle.tso_rec.specs.Spelling.{record_at}
use Rattle.tso_rec.proofs.packed.Packed.read_among.Given as goal

abbrev pub invariant-loop : goal.invariant-loop
invariant-loop l = (with_front l.packed (items_at (record_at l.grain) (l.count - l.counter) l.rest) ≡ items_at (record_at l.grain) l.count l.bytes) × (l.bytes ≡ [] → (l.counter ≡ 0) × (l.rest ≡ []))
