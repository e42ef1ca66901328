use Rattle.std.proofs.Common.{◌≡◌, ◌+◌, ◌≤◌, ◌++◌, length}
use Rattle.std.specs.Vec.Iter.{into_iter_items}
use Rattle.tso_parts.specs.Marks.{AreMarked, hash_of}
use Rattle.tso_parts.specs.Numbers.{AreNumbersIn, Extends}
use Rattle.tso_parts.proofs.taking.numbers_of.Given as goal

abbrev pub invariant-loop-item : goal.invariant-loop-item
invariant-loop-item g l = record {
  marked : AreMarked {X = g.row.T.Denot} (λ x. hash_of l.seeded (g.T.Hash.hash_input x)) l.items l.marks;
  numbers : AreNumbersIn {X = g.row.T.Denot} l.items l.numbers l.yielded;
  extends : Extends {X = g.row.T.Denot} l.initial.items l.items;
  more : length l.items ≤ length l.initial.items + length l.yielded;
  rest : l.yielded ++ into_iter_items l.item-iterator ≡ into_iter_items l.initial.item-iterator;
}
