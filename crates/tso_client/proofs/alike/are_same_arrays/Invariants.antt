use Rattle.std.proofs.Common.{◌≡◌, take}
use Rattle.tso_client.proofs.alike.are_same_arrays.Given as goal

abbrev pub invariant-loop-i : goal.invariant-loop-i
invariant-loop-i l = take l.i l.a ≡ take l.i l.b
