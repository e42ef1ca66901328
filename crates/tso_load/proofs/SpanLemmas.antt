-- Parts of a file, one behind another.
use Rattle.std.proofs.Common.{◌≡◌, ◌∙◌, ◌↔◌, ℕ, suc, ◌+◌, ◌-◌, ◌<◌, ◌≤◌, ◌++◌, List, [], ◌∷◌, length, map, take, drop, get_or, Option, None, Some, ap, arith, subst, sym}
use Rattle.std.proofs.Math.Seq.{drop-cons, take-suc}
use Rattle.std.proofs.lemmas.List.{map-append, take_all}
use Rattle.tso_load.specs.Spans.{AreOneBehindAnother, BeginAt, RiseFrom}
use Rattle.tso_load.specs.declared.span.Span.{Span}

-- one more, where the last ends
one_more : (a b : ℕ) (xs : List Span) (s : Span) → AreOneBehindAnother a xs b → s.start ≡ b → AreOneBehindAnother a (xs ++ s ∷ []) (b + s.most)
one_more a b [] s same at = (at ∙ sym same, ap (λ (n : ℕ). n + s.most) same)
one_more a b (x ∷ xs) s behind at = (behind.0, one_more (a + x.most) b xs s behind.1 at)

-- the part from there up to another place
pub up_to : (b next : ℕ) (xs more : List Span) (s : Span) → AreOneBehindAnother 0 xs b → s.start ≡ b → s.most ≡ next - b → b < next → more ≡ xs ++ s ∷ [] → AreOneBehindAnother 0 more next
up_to b next xs more s behind at most less is =
    let e : b + s.most ≡ next = omega (arith, most, less) in
    subst (λ (l : List Span). AreOneBehindAnother 0 l next) (sym is) (subst (AreOneBehindAnother 0 (xs ++ s ∷ [])) e (one_more 0 b xs s behind at))

module _ (xs more : List Span) (s : Span) (seams : List (Option ℕ)) (i : ℕ) (begun : map (λ (x : Span). Some x.start) xs ++ Some s.start ∷ [] ≡ Some 0 ∷ take i seams) (is : more ≡ xs ++ s ∷ []) where
  all_begun : map (λ (x : Span). Some x.start) more ≡ Some 0 ∷ take i seams
  all_begun = ap (map (λ (x : Span). Some x.start)) is ∙ map-append (λ (x : Span). Some x.start) xs (s ∷ []) ∙ begun

  -- one more begins at the next place, which was found
  pub begin_more : (next : ℕ) → i < length seams → get_or seams i None ≡ Some next → map (λ (x : Span). Some x.start) more ++ Some next ∷ [] ≡ Some 0 ∷ take (i + 1) seams
  begin_more next less at =
      ap (λ (l : List (Option ℕ)). l ++ Some next ∷ []) all_begun
      ∙ ap (λ (l : List (Option ℕ)). Some 0 ∷ l)
      (ap (λ (x : Option ℕ). take i seams ++ x ∷ []) (sym at) ∙ sym (take-suc seams i None less) ∙ ap (λ (n : ℕ). take n seams) (let e : suc i ≡ i + 1 = omega arith in e))

  -- all places are gone through
  pub begin_all : length seams ≤ i → BeginAt seams more
  begin_all past = all_begun ∙ ap (λ (l : List (Option ℕ)). Some 0 ∷ l) (take_all i seams past)

-- all places rise just where those behind the next one do
pub next_rise : (seams : List (Option ℕ)) (i start next : ℕ) → i < length seams → get_or seams i None ≡ Some next → start < next → RiseFrom start (drop i seams) ↔ RiseFrom next (drop (i + 1) seams)
next_rise seams i start next less at above =
    let e : suc i ≡ i + 1 = omega arith in
    let here : drop i seams ≡ Some next ∷ drop (suc i) seams = drop-cons seams i None less ∙ ap (λ (o : Option ℕ). o ∷ drop (suc i) seams) at in (
      λ rise. subst (λ (n : ℕ). RiseFrom next (drop n seams)) e (subst (RiseFrom start) here rise).1,
      λ rest. subst (RiseFrom start) (sym here) (above, subst (λ (n : ℕ). RiseFrom next (drop n seams)) (sym e) rest),
    )
