use Rattle.std.proofs.Common.{◌≡◌, ◌++◌, length, take}
use Rattle.std.specs.List.{flat_map}
use Rattle.tso_code.specs.Numbers.{number}
use Rattle.tso_rec.proofs.shared.write_all.Given as goal

abbrev pub invariant-loop-part : goal.invariant-loop-part
invariant-loop-part g l = l.out.items ≡ l.fn.out.items ++ (number (length l.parts) ++ flat_map g.T.Code.spell (take l.part-index l.parts))
