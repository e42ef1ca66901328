use Rattle.std.proofs.Common.{◌≡◌, ◌<◌, ◌^◌, length, take}
use Rattle.std.specs.List.{sum_by}
use Rattle.tso_prog.specs.declared.client.Array.{Array}
use Rattle.tso_machine.proofs.place.first_place.Given as goal

abbrev pub invariant-loop-other : goal.invariant-loop-other
invariant-loop-other l = (l.count ≡ sum_by (λ (a : Array). length a.words) (take l.other-index l.other-items)) × (l.count < 2 ^ 64)
