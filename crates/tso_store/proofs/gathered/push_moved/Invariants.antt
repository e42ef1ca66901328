use Rattle.std.proofs.Common.{◌≡◌, ◌+◌, ◌++◌, ◌≤◌, length, map, take, vec_capacity, vec_len}
use Rattle.tso_store.specs.Gathering.{moved_from}
use Rattle.tso_store.proofs.gathered.push_moved.Given as goal

abbrev pub invariant-loop-number : goal.invariant-loop-number
invariant-loop-number l = record {
  keys : l.keys.items ≡ l.fn.keys.items ++ map (moved_from l.numbers l.others) (take l.number-index l.taken);
  room : vec_len l.keys + length l.taken ≤ vec_capacity l.keys + l.number-index;
}
