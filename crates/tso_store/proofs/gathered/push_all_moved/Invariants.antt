use Rattle.std.proofs.Common.{◌≡◌, ◌+◌, ◌++◌, ◌≤◌, length, map, take, vec_capacity, vec_len}
use Rattle.tso_keys.specs.Moving.{moved_key}
use Rattle.tso_store.proofs.gathered.push_all_moved.Given as goal

abbrev pub invariant-loop-key : goal.invariant-loop-key
invariant-loop-key l = record {
  keys : l.keys.items ≡ l.fn.keys.items ++ map (moved_key l.numbers) (take l.key-index l.others);
  room : vec_len l.keys + length l.others ≤ vec_capacity l.keys + l.key-index;
}
