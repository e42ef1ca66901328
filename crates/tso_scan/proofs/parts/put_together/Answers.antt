use Rattle.std.proofs.Common.{◌≡◌, ◌∙◌, ◌∷◌, ◌+◌, List, ℕ, ap, drop, sym}
use Rattle.std.proofs.lemmas.List.{drop_all, drop_more}
use Rattle.tso_scan.proofs.PartLemmas.{one_more}
use Rattle.tso_scan.proofs.parts.put_together.Goals as goal
use Rattle.tso_scan.specs.Parts.{text_of}

pub loop-part-init : goal.loop-part-init
loop-part-init c = ap (λ (all : List ℕ). text_of all c.args.more.now) c.in_ok-all.ensures.items

pub loop-part-preserved : goal.loop-part-preserved
loop-part-preserved c =
    let i = c.loop-part.part-index in
    let more = c.args.more.now in
    let part = c.part-item.result in
    let rest = drop (i + 1) more in
    let here : drop i more ≡ part ∷ rest = drop_more more i part c.loop-part-test.true ∙ ap (λ (p : List ℕ). p ∷ rest) (sym c.part-item.is) in
    let grown = rw c.as_slice.ensures at c.in_ok-extend_from_slice.ensures.items in
    ap (λ (all : List ℕ). text_of all rest) grown ∙ one_more c.loop-part.all.items part (drop i more) rest here ∙ c.loop-part.invariant

pub returns : goal.returns
returns c = sym (ap (text_of c.loop-part.all.items) (drop_all c.loop-part.part-index c.args.more.now c.loop-part-test.false)) ∙ c.loop-part.invariant
