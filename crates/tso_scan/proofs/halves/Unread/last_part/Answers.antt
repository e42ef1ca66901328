use Rattle.std.proofs.Common.{List, ℕ, subst, sym}
use Rattle.tso_scan.proofs.PartLemmas.{last_ends}
use Rattle.tso_scan.proofs.halves.Unread.last_part.Goals as goal
use Rattle.tso_scan.specs.Halves.{IsEnd}
use Rattle.tso_scan.specs.Parts.{text_of}

pub returns-in-Some : goal.returns-in-Some
returns-in-Some c =
    let bytes = c.args.self.now.bytes.now in
    let P : List (List ℕ) → Type 0 = λ parts. IsEnd (text_of bytes parts) c.in-Some.last.now in
    rw c.as_slice.ensures (subst P (sym c.in-Some.ensures.cases.0) (last_ends bytes c.in-Some.field-0-1.now c.in-Some.last.now))
