-- Arrays are found by their names, and labels by theirs.
use Rattle.std.proofs.Common.{◌≡◌, ℕ, zero, suc, ◌+◌, ◌<◌, ◌≤◌, Bool, true, false, not, List, [], ◌∷◌, ◌++◌, length, map, Some, refl, sym, ap, ◌∙◌, arith}
use Rattle.std.specs.Prelude.{◌||◌, nat_lt, is_some, position, find}
use Rattle.std.specs.List.{list_all, list_any, prefix_len, AllByRecursion}
use Rattle.std.specs.Option.{option_map}
use Rattle.std.specs.Str.{bytes_eq}
use Rattle.std.proofs.lemmas.Bool.{and_parts, or_parts, le-leb, false_from_ne_true, not-true}
use Rattle.std.proofs.lemmas.Bool.Decides.{nat_tests}
use Rattle.std.proofs.lemmas.Fmt.{decimal_injective}
use Rattle.std.proofs.lemmas.List.Folds.{list_any-append}
use Rattle.std.proofs.lemmas.Slice.Eq.{bytes_eq-Decides}
use Rattle.tso_line.specs.Lines.{Name}
use Rattle.tso_prog.specs.declared.client.Array.{Array}
use Rattle.tso_prog.specs.Contents.{TargetOf}
use Rattle.tso_prog.specs.Finish.{target_position}
use Rattle.tso_prog.specs.Limits.{are_distinct, is_short_name}
use Rattle.tso_print.specs.Layout.{array_name, label_name}

-- ---- equal names

pub same_bytes : (x : List ℕ) → bytes_eq x x ≡ true
same_bytes x = (bytes_eq-Decides x x).1 refl

pub other_bytes : (x y : List ℕ) → (x ≡ y → ⊥) → bytes_eq x y ≡ false
other_bytes x y h = false_from_ne_true (bytes_eq x y) (λ e. h ((bytes_eq-Decides x y).0 e))

pub other_way : (x y : List ℕ) → bytes_eq x y ≡ false → bytes_eq y x ≡ false
other_way x y e = false_from_ne_true (bytes_eq y x) (λ f. let t : bytes_eq x y ≡ true = (bytes_eq-Decides x y).1 (sym ((bytes_eq-Decides y x).0 f)) in absurd cc)

-- ---- distinct names

pub distinct_before : (xs : List Name) (n : Name) (ys : List Name) → are_distinct (xs ++ n ∷ ys) ≡ true → list_any (λ (y : Name). bytes_eq y n) xs ≡ false
distinct_before [] n ys e = refl
distinct_before (x ∷ xs) n ys e =
    let a = and_parts (not (list_any (λ (y : Name). bytes_eq y x) (xs ++ n ∷ ys))) (are_distinct (xs ++ n ∷ ys)) e in
    let none : (list_any (λ (y : Name). bytes_eq y x) xs || (bytes_eq n x || list_any (λ (y : Name). bytes_eq y x) ys)) ≡ false = sym (list_any-append (λ (y : Name). bytes_eq y x) xs (n ∷ ys)) ∙ not-true (list_any (λ (y : Name). bytes_eq y x) (xs ++ n ∷ ys)) a.0 in
    let b = or_parts (list_any (λ (y : Name). bytes_eq y x) xs) (bytes_eq n x || list_any (λ (y : Name). bytes_eq y x) ys) none in
    let c = or_parts (bytes_eq n x) (list_any (λ (y : Name). bytes_eq y x) ys) b.1 in
    rw (other_way n x c.0) (distinct_before xs n ys a.1)

-- ---- places of arrays

none_passes : {X : Type 0} (p : X → Bool) (xs : List X) → list_any p xs ≡ false → prefix_len (λ (x : X). not (p x)) xs ≡ length xs
none_passes p [] e = refl
none_passes p (x ∷ xs) e =
    let a = or_parts (p x) (list_any p xs) e in
    let more : 1 + length xs ≡ suc (length xs) = omega arith in
    rw (a.0, none_passes p xs a.1) more

not_below : (n : ℕ) → nat_lt n n ≡ false
not_below n = grind (arith, nat_tests)

pub nowhere : {X : Type 0} (p : X → Bool) (xs : List X) → list_any p xs ≡ false → is_some (position p xs) ≡ false
nowhere p xs e = rw (none_passes p xs e, not_below (length xs)) refl

-- an array that is behind one has another name
behind_other : (x : Name) (arrays : List Array) (k : ℕ) → k < length arrays → list_any (λ (y : Name). bytes_eq y x) (map (λ (a : Array). a.name) arrays) ≡ false → bytes_eq (array_name arrays k) x ≡ false
behind_other x [] k lt e = absurd (omega (arith, lt))
behind_other x (a ∷ more) zero lt e = (or_parts (bytes_eq a.name x) (list_any (λ (y : Name). bytes_eq y x) (map (λ (b : Array). b.name) more)) e).0
behind_other x (a ∷ more) (suc k) lt e = behind_other x more k (omega (arith, lt)) (or_parts (bytes_eq a.name x) (list_any (λ (y : Name). bytes_eq y x) (map (λ (b : Array). b.name) more)) e).1

place_of : (arrays : List Array) (k : ℕ) → k < length arrays → are_distinct (map (λ (a : Array). a.name) arrays) ≡ true → prefix_len (λ (a : Array). not (bytes_eq a.name (array_name arrays k))) arrays ≡ k
place_of [] k lt e = absurd (omega (arith, lt))
place_of (a ∷ more) zero lt e = rw (same_bytes a.name) refl
place_of (a ∷ more) (suc k) lt e =
    let d = and_parts (not (list_any (λ (y : Name). bytes_eq y a.name) (map (λ (b : Array). b.name) more))) (are_distinct (map (λ (b : Array). b.name) more)) e in
    let other : bytes_eq a.name (array_name more k) ≡ false = other_way (array_name more k) a.name (behind_other a.name more k (omega (arith, lt)) (not-true (list_any (λ (y : Name). bytes_eq y a.name) (map (λ (b : Array). b.name) more)) d.0)) in
    let again : prefix_len (λ (b : Array). not (bytes_eq b.name (array_name more k))) more ≡ k = place_of more k (omega (arith, lt)) d.1 in
    let next : 1 + k ≡ suc k = omega arith in
    rw (other, again) next

-- each array is found by its name
pub array_found : (arrays : List Array) (k : ℕ) → k < length arrays → are_distinct (map (λ (a : Array). a.name) arrays) ≡ true → position (λ (a : Array). bytes_eq a.name (array_name arrays k)) arrays ≡ Some k
array_found arrays k lt e = let t : nat_lt k (length arrays) ≡ true = le-leb (suc k) (length arrays) lt in rw (place_of arrays k lt e, t) refl

pub name_short : (arrays : List Array) (k : ℕ) → k < length arrays → list_all (λ (a : Array). is_short_name a.name) arrays ≡ true → is_short_name (array_name arrays k) ≡ true
name_short [] k lt e = absurd (omega (arith, lt))
name_short (a ∷ more) zero lt e = (and_parts (is_short_name a.name) (list_all (λ (b : Array). is_short_name b.name) more) e).0
name_short (a ∷ more) (suc k) lt e = name_short more k (omega (arith, lt)) (and_parts (is_short_name a.name) (list_all (λ (b : Array). is_short_name b.name) more) e).1

-- ---- labels

tail_of : List ℕ → List ℕ
tail_of [] = []
tail_of (b ∷ bs) = bs

pub labels_differ : (a b : ℕ) → a < b → b ≤ 256 → bytes_eq (label_name a) (label_name b) ≡ false
unfolding tail_of
labels_differ a b lt le = other_bytes (label_name a) (label_name b) (λ e. absurd (omega (arith, lt, decimal_injective a b (omega arith) (omega arith) (ap tail_of e))))

abbrev pub label_at : ℕ → TargetOf
label_at n = record { name = label_name n; at = n }

-- labels of places before this one
abbrev pub Before : ℕ → List TargetOf → Type 0
Before n ls = AllByRecursion (λ (l : TargetOf). (l.at < n) × (l.name ≡ label_name l.at)) ls

pub before_more : (n : ℕ) (ls : List TargetOf) → Before n ls → Before (n + 1) ls
before_more n [] h = tt
before_more n (l ∷ ls) h = ((omega (arith, h.0.0), h.0.1), before_more n ls h.1)

pub before_push : (n : ℕ) (ls : List TargetOf) → Before n ls → Before (n + 1) (ls ++ label_at n ∷ [])
before_push n [] h = ((omega arith, refl), tt)
before_push n (l ∷ ls) h = ((omega (arith, h.0.0), h.0.1), before_push n ls h.1)

pub before_none : (n k : ℕ) (ls : List TargetOf) → n ≤ k → k ≤ 256 → Before n ls → list_any (λ (l : TargetOf). bytes_eq l.name (label_name k)) ls ≡ false
before_none n k [] le few h = refl
before_none n k (l ∷ ls) le few h =
    let other : bytes_eq l.name (label_name k) ≡ false = rw h.0.1 (labels_differ l.at k (omega (arith, le, h.0.0)) few) in
    rw other (before_none n k ls le few h.1)

find_behind : (p : TargetOf → Bool) (xs ys : List TargetOf) → list_any p xs ≡ false → find p (xs ++ ys) ≡ find p ys
find_behind p [] ys e = refl
find_behind p (x ∷ xs) ys e = let a = or_parts (p x) (list_any p xs) e in rw a.0 (find_behind p xs ys a.1)

pub place_behind : (xs ys : List TargetOf) (n : Name) → list_any (λ (l : TargetOf). bytes_eq l.name n) xs ≡ false → target_position (xs ++ ys) n ≡ target_position ys n
place_behind xs ys n e = ap (option_map (λ (l : TargetOf). l.at)) (find_behind (λ (l : TargetOf). bytes_eq l.name n) xs ys e)

pub place_here : (k : ℕ) (ys : List TargetOf) → target_position (label_at k ∷ ys) (label_name k) ≡ Some k
place_here k ys = rw (same_bytes (label_name k)) refl
