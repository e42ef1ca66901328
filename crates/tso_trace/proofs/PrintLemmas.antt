-- What went out, line by line.
use Rattle.std.proofs.Common.{◌≡◌, ◌∙◌, ℕ, zero, suc, arith, ◌+◌, ◌<◌, List, [], ◌∷◌, ◌++◌, length, take, drop, get_or, Option, refl, sym, ap, subst, append_assoc, append-nil, Result, Ok, Err, OnErr}
use Rattle.std.proofs.KnownBytes.{Appends-nil, Appends-trans}
use Rattle.std.proofs.lemmas.List.{flat_map_more, take_more}
use Rattle.std.specs.Io.KnownBytes.{Appends}
use Rattle.tso_prog.specs.declared.client.Array.{Array}
use Rattle.tso_machine.specs.declared.label.Label.{Label}
use Rattle.tso_trace.specs.Grammar.{ended, header, line_text, lines_text, trace_text}
use Rattle.tso_list.proofs.BeginningLemmas.{beginning_behind, beginning_of_part}
use Rattle.tso_list.specs.Beginnings.{AppendsBeginning}

-- the next line
pub printed_more : (arrays : List Array) (labels : List Label) (k : ℕ) (d : Label) (line : List ℕ) (a b c e : Option (List ℕ)) → k < length labels → line ≡ line_text arrays (get_or labels k d)
    → Appends a b (lines_text arrays (take k labels)) → Appends b c line → Appends c e (10 ∷ []) → Appends a e (lines_text arrays (take (k + 1) labels))
printed_more arrays labels k d line a b c e below is before one newline =
    let l = get_or labels k d in
    let spelled : Label → List ℕ = λ x. ended (line_text arrays x) in
    let grown : lines_text arrays (take (k + 1) labels) ≡ lines_text arrays (take k labels) ++ (line ++ 10 ∷ []) =
    ap (lines_text arrays) (take_more labels k d below) ∙ sym (flat_map_more spelled [] (take k labels) l) ∙ ap (λ (x : List ℕ). lines_text arrays (take k labels) ++ (x ++ 10 ∷ [])) (sym is) in
    subst (Appends a e) (sym grown) (Appends-trans a b e _ _ before (Appends-trans b c e line (10 ∷ []) one newline))

-- ---- what went out where a write failed

-- the lines of the first k labels, the next line, and those behind it
pub lines_at : (arrays : List Array) (labels : List Label) (k : ℕ) (d : Label) → k < length labels
    → lines_text arrays labels ≡ lines_text arrays (take k labels) ++ (ended (line_text arrays (get_or labels k d)) ++ lines_text arrays (drop (suc k) labels))
lines_at arrays [] k d below = absurd (omega arith)
lines_at arrays (l ∷ labels) zero d below = refl
lines_at arrays (l ∷ labels) (suc k) d below =
    let here = ended (line_text arrays l) in
    let behind = ended (line_text arrays (get_or labels k d)) ++ lines_text arrays (drop (suc k) labels) in
    ap (λ (x : List ℕ). here ++ x) (lines_at arrays labels k d (omega arith)) ∙ sym (append_assoc here (lines_text arrays (take k labels)) behind)

-- and those behind the first k
lines_split : (arrays : List Array) (labels : List Label) (k : ℕ) → lines_text arrays labels ≡ lines_text arrays (take k labels) ++ lines_text arrays (drop k labels)
lines_split arrays [] zero = refl
lines_split arrays [] (suc k) = refl
lines_split arrays (l ∷ labels) zero = refl
lines_split arrays (l ∷ labels) (suc k) =
    let here = ended (line_text arrays l) in
    ap (λ (x : List ℕ). here ++ x) (lines_split arrays labels k) ∙ sym (append_assoc here (lines_text arrays (take k labels)) (lines_text arrays (drop k labels)))

-- no memory for the next line
pub unspelled : (arrays : List Array) (labels : List Label) (k : ℕ) (a b : Option (List ℕ)) → Appends a b (lines_text arrays (take k labels)) → AppendsBeginning a b (lines_text arrays labels)
unspelled arrays labels k a b before =
    beginning_of_part a b b (lines_text arrays labels) (lines_text arrays (take k labels)) (lines_text arrays (drop k labels)) (lines_split arrays labels k) before

module _ (arrays : List Array) (labels : List Label) (k : ℕ) (d : Label) (a b : Option (List ℕ)) (below : k < length labels) (before : Appends a b (lines_text arrays (take k labels))) where
  abbrev part : List ℕ
  part = lines_text arrays (take k labels)

  abbrev rest : List ℕ
  rest = lines_text arrays (drop (suc k) labels)

  module _ (c : Option (List ℕ)) (line : List ℕ) (is : line ≡ line_text arrays (get_or labels k d)) where
    abbrev whole : lines_text arrays labels ≡ part ++ (line ++ (10 ∷ rest))
    whole = lines_at arrays labels k d below ∙ ap (λ (x : List ℕ). part ++ x) (append_assoc (line_text arrays (get_or labels k d)) (10 ∷ []) rest ∙ ap (λ (x : List ℕ). x ++ (10 ∷ rest)) (sym is))

    -- the next line went out in part
    pub line_broken : AppendsBeginning b c line → AppendsBeginning a c (lines_text arrays labels)
    line_broken broken = beginning_behind a b c (lines_text arrays labels) part line (10 ∷ rest) whole before broken

    -- its newline did not
    pub newline_broken : (e : Option (List ℕ)) → Appends b c line → AppendsBeginning c e (10 ∷ []) → AppendsBeginning a e (lines_text arrays labels)
    newline_broken e one broken =
        beginning_behind a c e (lines_text arrays labels) (part ++ line) (10 ∷ []) rest (whole ∙ sym (append_assoc part line (10 ∷ rest))) (Appends-trans a b c part line before one) broken

-- the first line went out in part
pub header_broken : (arrays : List Array) (labels : List Label) (a b : Option (List ℕ)) → AppendsBeginning a b (ended header) → AppendsBeginning a b (trace_text arrays labels)
header_broken arrays labels a b broken = beginning_behind a a b (trace_text arrays labels) [] (ended header) (lines_text arrays labels) refl (Appends-nil a) broken

-- the lines behind it did
pub lines_broken : (arrays : List Array) (labels : List Label) (a b c : Option (List ℕ)) → Appends a b (ended header) → AppendsBeginning b c (lines_text arrays labels) → AppendsBeginning a c (trace_text arrays labels)
lines_broken arrays labels a b c first broken =
    beginning_behind a b c (trace_text arrays labels) (ended header) (lines_text arrays labels) [] (ap (λ (x : List ℕ). ended header ++ x) (sym (append-nil (lines_text arrays labels)))) first broken

-- what holds anyhow holds of an error
pub on_err : {T E P : Type 0} (r : Result T E) → P → OnErr r P
on_err (Ok x) p = tt
on_err (Err e) p = p
