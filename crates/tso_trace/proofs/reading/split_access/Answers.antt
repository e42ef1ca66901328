use Rattle.std.proofs.Common.{refl, sym, ap, List, ◌∷◌, ◌++◌, ℕ, decimal, ◌∙◌}
use Rattle.tso_trace.proofs.LineLemmas.{cell_parts, decimal_lacks, same_cut}
use Rattle.tso_trace.proofs.reading.split_access.Goals as goal

pub returns-in_err-index : goal.returns-in_err-index
returns-in_err-index c =
    rw c.from_residual-in_err-index.ensures
    (λ name index word named small fits is.
    c.in_err-index.ensures index _ small
    (same_cut 91 _ name _ _ c.in_ok-name.ensures.first named (sym c.in_ok-name.ensures.parts ∙ is ∙ cell_parts name index _)).1)

pub returns-in_err-word : goal.returns-in_err-word
returns-in_err-word c =
    rw c.from_residual-in_err-word.ensures
    (λ name index word named small fits is.
    let behind_name = (same_cut 91 _ name _ _ c.in_ok-name.ensures.first named (sym c.in_ok-name.ensures.parts ∙ is ∙ cell_parts name index _)).1 in
    c.in_err-word.ensures word fits
    (same_cut 93 _ _ _ _ (decimal_lacks 93 c.in_ok-index.index refl c.in_ok-index.ensures.0) (decimal_lacks 93 index refl small) (sym c.in_ok-index.ensures.1 ∙ behind_name)).1)

pub returns : goal.returns
returns c =
    let name = c.in_ok-name.name.now in
    let index = c.in_ok-index.index in
    let spelled = c.in_ok-name.ensures.parts ∙ ap (λ (l : List ℕ). name ++ 91 ∷ l) (c.in_ok-index.ensures.1 ∙ ap (λ (l : List ℕ). decimal index ++ 93 ∷ l) c.in_ok-word.ensures.1) in
    (c.in_ok-name.ensures.first, c.in_ok-index.ensures.0, c.in_ok-word.ensures.0, spelled ∙ sym (cell_parts name index _))
