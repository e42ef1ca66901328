use Rattle.std.proofs.Common.{arith}
use Rattle.std.proofs.lemmas.List.{length-map}
use Rattle.std.proofs.lemmas.Option.{slice_get_within}
use Rattle.tso_check.proofs.PieceLemmas.{bad_at, none_more}
use Rattle.tso_check.proofs.threads.first_found.Goals as goal

pub returns-in-Some : goal.returns-in-Some
returns-in-Some g c =
    let many = length-map c.args.pieces.now g.P.Part.span in
    bad_at _ c.loop-number.number c.in-Some.bad (omega (arith, many, c.loop-number-test.true)) c.loop-number.invariant (rw c.in-Some.is at c.in_ok-bad.ensures)

pub loop-number-preserved : goal.loop-number-preserved
loop-number-preserved g c = none_more _ c.loop-number.number c.loop-number.invariant (rw c.in-None.is at c.in_ok-bad.ensures)

pub returns : goal.returns
returns g c = λ k s at.
    let many = length-map c.args.pieces.now g.P.Part.span in
    let less = slice_get_within _ k s at in
    c.loop-number.invariant k s (omega (arith, many, less, c.loop-number-test.false)) at
