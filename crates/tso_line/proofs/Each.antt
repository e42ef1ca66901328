-- Reading pieces one after the other, as a loop does.
use Rattle.std.proofs.Common.{◌≡◌, ℕ, zero, suc, ◌+◌, ◌<◌, ◌≤◌, Bool, true, replicate, List, [], ◌∷◌, ◌++◌, length, drop, get_or, Option, Some, None, refl, sym, ap, subst, ◌∙◌, append_assoc, arith, drop-cons}
use Rattle.std.proofs.lemmas.List.{append-nil, drop_all, length-replicate}
use Rattle.std.specs.Prelude.{◌&&◌, nat_le, IfSome, option_and_then}
use Rattle.std.specs.Option.{option_map}
use Rattle.std.specs.List.{list_all}
use Rattle.std.proofs.lemmas.Bool.{and_parts, and_from, le-leb}
use Rattle.std.proofs.lemmas.List.Folds.{list_all-append}
use Rattle.tso_line.specs.Proper.{is_call, is_word, are_calls}
use Rattle.tso_line.specs.Ranges.{all_within, or_out}
use Rattle.tso_line.specs.declared.lexeme.Ranged.{Ranged}
use Rattle.tso_line.specs.declared.lexeme.Ranged.TheVariants.{Within, OutOfRange}
use Rattle.tso_line.specs.declared.instruction.CallKind.{CallKind}
use Rattle.tso_line.specs.declared.lexeme.Lexeme.{Lexeme}
use Rattle.tso_line.specs.Reading.{each}

-- what was read before, and what is still read
abbrev pub with_front : {A : Type 0} → List A → Option (List A) → Option (List A)
with_front front rest = option_map (λ xs. front ++ xs) rest

regroup : {A : Type 0} (front : List A) (x : A) (rest : Option (List A)) → with_front front (option_map (λ xs. x ∷ xs) rest) ≡ with_front (front ++ x ∷ []) rest
regroup front x (Some xs) = ap (λ (ys : List _). Some ys) (sym (append_assoc front (x ∷ []) xs))
regroup front x None = refl

-- a piece more
pub each_more : {A : Type 0} (f : List Lexeme → Option A) (front : List A) (p : List Lexeme) (ps : List (List Lexeme)) (x : A) (all : Option (List A)) → f p ≡ Some x → with_front front (each f (p ∷ ps)) ≡ all → with_front (front ++ x ∷ []) (each f ps) ≡ all
unfolding each
each_more f front p ps x all e so_far = sym (regroup front x (each f ps)) ∙ sym (ap (λ (r : Option _). with_front front (option_and_then (λ y. option_map (λ xs. y ∷ xs) (each f ps)) r)) e) ∙ so_far

pub each_stop : {A : Type 0} (f : List Lexeme → Option A) (front : List A) (p : List Lexeme) (ps : List (List Lexeme)) (all : Option (List A)) → f p ≡ None → with_front front (each f (p ∷ ps)) ≡ all → all ≡ None
unfolding each
each_stop f front p ps all e so_far = sym so_far ∙ ap (λ (r : Option _). with_front front (option_and_then (λ y. option_map (λ xs. y ∷ xs) (each f ps)) r)) e

pub each_end : {A : Type 0} (f : List Lexeme → Option A) (front : List A) (all : Option (List A)) → with_front front (each f []) ≡ all → all ≡ Some front
unfolding each
each_end f front all so_far = sym so_far ∙ ap (λ (xs : List _). Some xs) (append-nil front)

-- ---- values in range

at_index : {A : Type 0} (xs : List A) (i : ℕ) (x : A) → i < length xs → x ≡ get_or xs i x → drop i xs ≡ x ∷ drop (i + 1) xs
at_index xs i x lt e = let n : suc i ≡ i + 1 = omega arith in drop-cons xs i x lt ∙ ap (λ (y : _). y ∷ drop (suc i) xs) (sym e) ∙ ap (λ (k : ℕ). x ∷ drop k xs) n

pub some_more : {A : Type 0} (front : List A) (xs : List (Ranged A)) (i : ℕ) (it : Ranged A) (x : A) (all : Option (List A)) → i < length xs → it ≡ get_or xs i it → it ≡ Within x → with_front front (all_within (drop i xs)) ≡ all → with_front (front ++ x ∷ []) (all_within (drop (i + 1) xs)) ≡ all
unfolding all_within
some_more front xs i it x all lt at is so_far =
    let e : drop i xs ≡ Within x ∷ drop (i + 1) xs = at_index xs i it lt at ∙ ap (λ (y : Ranged _). y ∷ drop (i + 1) xs) is in
    sym (regroup front x (all_within (drop (i + 1) xs))) ∙ ap (λ (ys : List (Ranged _)). with_front front (all_within ys)) (sym e) ∙ so_far

pub some_stop : {A : Type 0} (front : List A) (xs : List (Ranged A)) (i : ℕ) (it : Ranged A) (all : Option (List A)) → i < length xs → it ≡ get_or xs i it → it ≡ OutOfRange → with_front front (all_within (drop i xs)) ≡ all → None ≡ all
unfolding all_within
some_stop front xs i it all lt at is so_far =
    let e : drop i xs ≡ OutOfRange ∷ drop (i + 1) xs = at_index xs i it lt at ∙ ap (λ (y : Ranged _). y ∷ drop (i + 1) xs) is in
    ap (λ (ys : List (Ranged _)). with_front front (all_within ys)) (sym e) ∙ so_far

pub some_end : {A : Type 0} (front : List A) (xs : List (Ranged A)) (i : ℕ) (all : Option (List A)) → length xs ≤ i → with_front front (all_within (drop i xs)) ≡ all → Some front ≡ all
unfolding all_within
some_end front xs i all le so_far =
    let e : drop i xs ≡ [] = drop_all i xs le in
    ap (λ (ys : List _). Some ys) (sym (append-nil front)) ∙ ap (λ (ys : List (Ranged _)). with_front front (all_within ys)) (sym e) ∙ so_far

length_more : {A : Type 0} (x : A) (ys : List A) (n : ℕ) (rest : Option (List A)) → ((zs : List A) → Some zs ≡ rest → length zs ≡ n) → Some ys ≡ option_map (λ zs. x ∷ zs) rest → length ys ≡ suc n
length_more x ys n None again e = absurd cc
length_more x ys n (Some zs) again e = ap (λ (ws : List _). length ws) (let f : ys ≡ x ∷ zs = cc in f) ∙ ap suc (again zs refl)

-- as many values as were there
pub all_within_length : {A : Type 0} (xs : List (Ranged A)) (ys : List A) → Some ys ≡ all_within xs → length ys ≡ length xs
unfolding all_within
all_within_length [] ys e = ap (λ (zs : List _). length zs) (let f : ys ≡ [] = cc in f)
all_within_length (OutOfRange ∷ xs) ys e = absurd cc
all_within_length (Within x ∷ xs) ys e = length_more x ys (length xs) (all_within xs) (λ zs f. all_within_length xs zs f) e

-- ---- what passes a test

pub passes_more : {A : Type 0} (p : A → Bool) (xs : List A) (x : A) → list_all p xs ≡ true → p x ≡ true → list_all p (xs ++ x ∷ []) ≡ true
passes_more p xs x e f = list_all-append p xs (x ∷ []) ∙ and_from (list_all p xs) (p x && true) e (and_from (p x) true f refl)

passes_first : {A : Type 0} (p : A → Bool) (x : A) (ys : List A) (rest : Option (List A)) → p x ≡ true → ((zs : List A) → Some zs ≡ rest → list_all p zs ≡ true) → Some ys ≡ option_map (λ zs. x ∷ zs) rest → list_all p ys ≡ true
passes_first p x ys None h again e = absurd cc
passes_first p x ys (Some zs) h again e = let f : ys ≡ x ∷ zs = cc in ap (list_all p) f ∙ and_from (p x) (list_all p zs) h (again zs refl)

-- the values that are there pass where each does
pub all_within_passes : {A : Type 0} (p : A → Bool) (xs : List (Ranged A)) (ys : List A) → list_all (or_out p) xs ≡ true → Some ys ≡ all_within xs → list_all p ys ≡ true
unfolding all_within
all_within_passes p [] ys h e = ap (list_all p) (let f : ys ≡ [] = cc in f)
all_within_passes p (OutOfRange ∷ xs) ys h e = absurd cc
all_within_passes p (Within x ∷ xs) ys h e =
    let a = and_parts (p x) (list_all (or_out p) xs) h in
    passes_first p x ys (all_within xs) a.0 (λ zs f. all_within_passes p xs zs a.1 f) e

pub zeros_pass : (p : ℕ → Bool) (n : ℕ) → p 0 ≡ true → list_all p (replicate n 0) ≡ true
zeros_pass p zero e = refl
zeros_pass p (suc n) e = and_from (p 0) (list_all p (replicate n 0)) e (zeros_pass p n e)

pub if_some_at : {A : Type 0} (P : A → Type 0) (o : Option A) (x : A) → o ≡ Some x → IfSome o P → P x
if_some_at {A} P o x e h =
    let Q : Option A → Type 0 = λ q. IfSome q P in
    subst Q e h

calls_all : (xs : List (Ranged CallKind)) (o : Option (List CallKind)) → o ≡ all_within xs → 1 ≤ length xs → list_all (or_out is_call) xs ≡ true → IfSome o (λ v. are_calls v ≡ true)
calls_all xs None e n h = tt
calls_all xs (Some ys) e n h =
    let m = all_within_length xs ys e in
    and_from _ _ (le-leb 1 (length ys) (omega (arith, m, n))) (all_within_passes is_call xs ys h e)

pub calls_pass : (xs : List (Ranged CallKind)) → 1 ≤ length xs → list_all (or_out is_call) xs ≡ true → IfSome (all_within xs) (λ v. are_calls v ≡ true)
calls_pass xs n h = calls_all xs (all_within xs) refl n h

pub zeros_proper : (n : ℕ) (words : List ℕ) → words ≡ replicate n 0 → 1 ≤ n → (nat_le 1 (length words) && list_all is_word words) ≡ true
zeros_proper n words e le =
    let same : length words ≡ n = ap (λ (ws : List ℕ). length ws) e ∙ length-replicate n 0 in
    and_from _ _ (le-leb 1 (length words) (omega (arith, same, le))) (ap (list_all is_word) e ∙ zeros_pass is_word n refl)
