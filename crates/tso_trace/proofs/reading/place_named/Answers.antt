use Rattle.std.proofs.Common.{◌∙◌, ◌≤◌, ◌^◌, length, sym, arith}
use Rattle.std.specs.List.{sum_by}
use Rattle.std.proofs.lemmas.Option.{none-some}
use Rattle.tso_prog.specs.declared.client.Array.{Array}
use Rattle.tso_machine.proofs.WordPlaces.{word_place}
use Rattle.tso_trace.proofs.AccessLemmas.{nowhere, somewhere}
use Rattle.tso_trace.proofs.reading.place_named.Goals as goal

pub returns-in_err-array : goal.returns-in_err-array
returns-in_err-array c place =
    rw c.from_residual.ensures (
      (λ e. absurd (none-some place e)),
      (λ e. absurd (nowhere c.args.client.now c.args.name.now c.args.index place c.requires c.ranges.index.fits (sym c.in_err-array.ensures) e)),
    )

pub returns : goal.returns
returns c place =
    let h = somewhere c.args.client.now c.args.name.now c.in_ok-array.array c.args.index place c.requires c.ranges.index.fits (sym c.in_ok-array.ensures) in
    let few : sum_by (λ (a : Array). length a.words) c.args.client.now.arrays ≤ 2 ^ 64 = omega (arith, c.args.client.now.few_words) in
    let is = (rw c.as_slice.ensures at c.place_at.ensures) ∙ word_place c.args.client.now.arrays c.in_ok-array.array c.args.index few in
    ((λ e. h.0 (sym is ∙ e)), (λ e. is ∙ h.1 e))
