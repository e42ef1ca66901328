use Rattle.std.proofs.Common.{length, ◌∙◌, ap}
use Rattle.std.specs.List.{sum_by}
use Rattle.std.proofs.lemmas.List.{take_all}
use Rattle.std.proofs.lemmas.List.Concat.{length-flat_map}
use Rattle.tso_prog.specs.declared.client.Array.{Array}
use Rattle.tso_state.proofs.well_formed.count_words.Goals as goal

pub returns : goal.returns
returns c = rw (length-flat_map (λ (a : Array). a.words) c.args.arrays.now) (c.loop-array.invariant ∙ ap (sum_by (λ (a : Array). length a.words)) (take_all c.loop-array.array-index c.args.arrays.now c.loop-array-test.false))
