use Rattle.std.proofs.Common.{◌≡◌, ◌++◌, [], length}
use Rattle.std.specs.Vec.Iter.{into_iter_items, into_iter_len}
use Rattle.tso_regions.proofs.GatheringLemmas.{IsFirst}
use Rattle.tso_regions.specs.Gathering.{AreGathered, AreOwnListed}
use Rattle.tso_regions.proofs.gathering.take_all.Given as goal

abbrev pub invariant-loop-region : goal.invariant-loop-region
invariant-loop-region g l =
    let all = into_iter_items l.initial.region-iterator in
    record {
      client : l.gathered.client ≡ l.initial.gathered.client;
      gathered : AreOwnListed l.count all → AreGathered l.initial.gathered.client l.count all (length l.yielded) l.gathered.states;
      first : IsFirst all (length l.yielded) l.gathered.states;
      none : length l.yielded ≡ 0 → l.gathered.states ≡ [];
      rest : l.yielded ++ into_iter_items l.region-iterator ≡ all;
      left : into_iter_len l.region-iterator ≡ length (into_iter_items l.region-iterator);
    }
