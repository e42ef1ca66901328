use Rattle.std.proofs.Common.{List, ℕ, subst, sym}
use Rattle.std.proofs.lemmas.List.{nil_from_length}
use Rattle.tso_check.proofs.deciding.answer_parts.Goals as goal
use Rattle.tso_check.specs.Verdicts.{IsAnswer}
use Rattle.tso_scan.specs.Parts.{whole_of}

pub returns-in-None : goal.returns-in-None
returns-in-None g c =
    let P : List (List ℕ) → Type 0 = λ parts. IsAnswer c.args.program.now (whole_of parts) c.answer_with.result in
    subst P (sym (nil_from_length c.args.parts.now c.in-None.ensures.cases)) c.answer_with.ensures

pub returns-in-Some : goal.returns-in-Some
returns-in-Some g c =
    let P : List (List ℕ) → Type 0 = λ parts. IsAnswer c.args.program.now (whole_of parts) c.answer_with-in-Some.result in
    subst P (sym c.in-Some.ensures.cases.0) (rw c.as_slice-first.ensures at c.answer_with-in-Some.ensures)
