use Rattle.std.proofs.Common.{◌≡◌, take}
use Rattle.tso_rec.proofs.packed.Packed.from_records.Given as goal

abbrev pub invariant-loop-record : goal.invariant-loop-record
invariant-loop-record l = l.packed ≡ take l.record-index l.records
