use Rattle.std.proofs.Common.{◌≡◌, ◌∙◌, ◌≤◌, ◌<◌, ◌+◌, ◌^◌, length, take, sym, ap, arith}
use Rattle.std.proofs.lemmas.List.{take_all}
use Rattle.std.specs.List.{sum_by}
use Rattle.tso_prog.specs.declared.client.Array.{Array}
use Rattle.tso_machine.proofs.WordPlaces.{one_more, too_many, word_fits, word_past}
use Rattle.tso_machine.specs.Places.{first_place}
use Rattle.tso_machine.proofs.place.first_place.Goals as goal

pub loop-other-preserved : goal.loop-other-preserved
loop-other-preserved c =
    let sum = c.in_ok-count.ensures in
    let more = one_more (take c.args.array c.args.arrays.now) c.loop-other.other-index c.loop-other.count c.other-item.result c.loop-other-test.true c.other-item.is c.loop-other.invariant.0 in
    let len = c.len.ensures in
    (sum.1 ∙ omega arith, omega arith)

pub returns-in_err-count : goal.returns-in_err-count
returns-in_err-count c =
    let no_sum = c.in_err-count.ensures in
    let past : 2 ^ 64 ≤ c.loop-other.count + length c.other-item.result.words = omega (arith, no_sum, c.len.ensures) in
    c.from_residual.ensures ∙ sym (word_past (first_place c.args.arrays.now c.args.array)
    (too_many (take c.args.array c.args.arrays.now) c.loop-other.other-index c.loop-other.count c.other-item.result c.loop-other-test.true c.other-item.is c.loop-other.invariant.0 past))

pub returns : goal.returns
returns c =
    let all : take c.loop-other.other-index (take c.args.array c.args.arrays.now) ≡ take c.args.array c.args.arrays.now = take_all c.loop-other.other-index (take c.args.array c.args.arrays.now) c.loop-other-test.false in
    let count : c.loop-other.count ≡ first_place c.args.arrays.now c.args.array = c.loop-other.invariant.0 ∙ ap (sum_by (λ (a : Array). length a.words)) all in
    let fits : first_place c.args.arrays.now c.args.array < 2 ^ 64 = omega (arith, count, c.loop-other.invariant.1) in
    rw count (sym (word_fits (first_place c.args.arrays.now c.args.array) fits))
