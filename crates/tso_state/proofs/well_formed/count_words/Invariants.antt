use Rattle.std.proofs.Common.{◌≡◌, length, take}
use Rattle.std.specs.List.{sum_by}
use Rattle.tso_state.proofs.well_formed.count_words.Given as goal

abbrev pub invariant-loop-array : goal.invariant-loop-array
invariant-loop-array l = l.count ≡ sum_by (λ a. length a.words) (take l.array-index l.arrays)
