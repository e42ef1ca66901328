use Rattle.std.proofs.Common.{◌∙◌, ◌≤◌, ◌^◌, length, arith}
use Rattle.std.specs.List.{sum_by}
use Rattle.tso_prog.specs.declared.client.Array.{Array}
use Rattle.tso_machine.proofs.WordPlaces.{word_place}
use Rattle.tso_machine.proofs.place.cell_place.Goals as goal

pub returns : goal.returns
returns c =
    let arrays = c.args.client.now.arrays in
    let few : sum_by (λ (x : Array). length x.words) arrays ≤ 2 ^ 64 = omega (arith, c.args.client.now.few_words) in
    (rw c.as_slice.ensures at c.place_at.ensures) ∙ word_place arrays c.args.array c.args.index few
