use Rattle.std.proofs.Common.{◌≡◌, ◌<◌, true, false}
use Rattle.tso_foot.specs.Least.{AreJoined, IsGrowing, room}
use Rattle.tso_foot.proofs.least.spread.Given as goal

abbrev pub invariant-loop-i : goal.invariant-loop-i
invariant-loop-i l = record {
  growing : IsGrowing l.arrays l.steps l.items;
  new : l.is_grown ≡ true → room l.items < room l.initial.items;
  old : l.is_grown ≡ false → l.items ≡ l.initial.items;
  joined : l.is_grown ≡ false → AreJoined l.steps l.items l.i;
}
