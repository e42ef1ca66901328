use Rattle.std.proofs.Common.{◌≡◌, ◌++◌, length, take}
use Rattle.std.specs.List.{flat_map}
use Rattle.tso_code.specs.Numbers.{number}
use Rattle.tso_rec.specs.Keeping.{records_of}
use Rattle.tso_rec.specs.Spelling.{a_record}
use Rattle.tso_rec.proofs.packed.Packed.write.Given as goal

abbrev pub invariant-loop-record : goal.invariant-loop-record
invariant-loop-record l = l.out.items ≡ l.fn.out.items ++ (number (length l.kept) ++ flat_map (a_record l.grain) (records_of (take l.record-index l.kept)))
