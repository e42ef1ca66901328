-- Rows of numbers.
use Rattle.std.proofs.Common.{◌≡◌, ℕ, zero, suc, ◌+◌, ◌<◌, ◌≤◌, ◌^◌, List, [], ◌∷◌, ◌++◌, length, Option, Some, None, refl, sym, ap, ◌∙◌, arith, slice_get, slice_set, take, get_or, add-one}
use Rattle.std.proofs.lemmas.Option.{slice_get_past}
use Rattle.std.specs.Option.{option_and_then}
use Rattle.tso_parts.specs.Numbers.{IsNumbered, IsNowhere, Extends}
use Rattle.tso_keys.specs.Numbers.{AreNumbersOf, before, values_at}

nothing : {X : Type 0} (pool : List X) (n : ℕ) → length pool < 2 ^ 32 → n ≡ 4294967295 → slice_get pool n ≡ None
nothing pool n small e = slice_get_past pool n (omega (arith, small, e))

before_none : {X : Type 0} (o : Option X) (xs : List X) → o ≡ None → before o xs ≡ []
before_none None xs e = refl
before_none (Some x) xs e = absurd cc

before_some : {X : Type 0} (o : Option X) (x : X) (xs ys : List X) → o ≡ Some x → xs ≡ ys → before o xs ≡ x ∷ ys
before_some None x xs ys e f = absurd cc
before_some (Some y) x xs ys e f = let h : y ≡ x = cc in cc

pub values_is : {X : Type 0} (pool : List X) (ns : List ℕ) (xs : List X) → length pool < 2 ^ 32 → AreNumbersOf pool ns xs → values_at pool ns ≡ xs
values_is pool [] [] small are = refl
values_is pool [] (x ∷ xs) small are = absurd are
values_is pool (n ∷ ns) [] small are = before_none (slice_get pool n) (values_at pool ns) (nothing pool n small are.0)
values_is pool (n ∷ ns) (x ∷ xs) small are = before_some (slice_get pool n) x (values_at pool ns) xs are.0 (values_is pool ns xs small are.1)

pub more_numbers : {X : Type 0} (old new : List X) (ns : List ℕ) (xs : List X) → Extends old new → AreNumbersOf old ns xs → AreNumbersOf new ns xs
more_numbers old new [] [] ext are = are
more_numbers old new [] (x ∷ xs) ext are = are
more_numbers old new (n ∷ ns) [] ext are = (are.0, more_numbers old new ns [] ext are.1)
more_numbers old new (n ∷ ns) (x ∷ xs) ext are = (ext n x are.0, more_numbers old new ns xs ext are.1)

pub same_row : {X : Type 0} (pool : List X) (ns ms : List ℕ) (xs : List X) → IsNumbered pool → length ns ≡ length ms → AreNumbersOf pool ns xs → AreNumbersOf pool ms xs → ns ≡ ms
same_row pool [] [] xs one len a b = refl
same_row pool [] (m ∷ ms) xs one len a b = absurd (omega (arith, len))
same_row pool (n ∷ ns) [] xs one len a b = absurd (omega (arith, len))
same_row pool (n ∷ ns) (m ∷ ms) [] one len a b =
    let h : n ≡ m = a.0 ∙ sym b.0 in
    let t : ns ≡ ms = same_row pool ns ms [] one (omega (arith, len)) a.1 b.1 in
    cc
same_row pool (n ∷ ns) (m ∷ ms) (x ∷ xs) one len a b =
    let h : n ≡ m = one n m x a.0 b.0 in
    let t : ns ≡ ms = same_row pool ns ms xs one (omega (arith, len)) a.1 b.1 in
    cc

bound : {X : Type 0} (pool : List X) (o : Option ℕ) (n : ℕ) → o ≡ Some n → option_and_then (slice_get pool) o ≡ slice_get pool n
bound pool None n e = absurd cc
bound pool (Some m) n e = let h : m ≡ n = cc in ap (slice_get pool) h

-- the value at a place
pub value_at : {X : Type 0} (pool : List X) (ns : List ℕ) (xs : List X) (i : ℕ) → length pool < 2 ^ 32 → AreNumbersOf pool ns xs → slice_get xs i ≡ option_and_then (slice_get pool) (slice_get ns i)
value_at pool [] [] i small are = refl
value_at pool [] (x ∷ xs) i small are = absurd are
value_at pool (n ∷ ns) [] zero small are = sym (nothing pool n small are.0)
value_at pool (n ∷ ns) [] (suc i) small are = value_at pool ns [] i small are.1
value_at pool (n ∷ ns) (x ∷ xs) zero small are = sym are.0
value_at pool (n ∷ ns) (x ∷ xs) (suc i) small are = value_at pool ns xs i small are.1

pub number_at : {X : Type 0} (pool : List X) (ns : List ℕ) (xs : List X) (i n : ℕ) → length pool < 2 ^ 32 → AreNumbersOf pool ns xs → slice_get ns i ≡ Some n → slice_get xs i ≡ slice_get pool n
number_at pool ns xs i n small are e = value_at pool ns xs i small are ∙ bound pool (slice_get ns i) n e

none_bound : {X : Type 0} (pool : List X) (o : Option ℕ) → o ≡ None → option_and_then (slice_get pool) o ≡ None
none_bound pool None e = refl
none_bound pool (Some m) e = absurd cc

pub none_at : {X : Type 0} (pool : List X) (ns : List ℕ) (xs : List X) (i : ℕ) → length pool < 2 ^ 32 → AreNumbersOf pool ns xs → slice_get ns i ≡ None → slice_get xs i ≡ None
none_at pool ns xs i small are e = value_at pool ns xs i small are ∙ none_bound pool (slice_get ns i) e

-- another value at a place
pub row_set : {X : Type 0} (pool : List X) (ns : List ℕ) (xs : List X) (i n : ℕ) (x y : X) → AreNumbersOf pool ns xs → slice_get xs i ≡ Some y → slice_get pool n ≡ Some x → AreNumbersOf pool (slice_set ns i n) (slice_set xs i x)
row_set pool [] [] i n x y are at e = are
row_set pool [] (z ∷ xs) i n x y are at e = absurd are
row_set pool (m ∷ ns) [] i n x y are at e = absurd (let h : None ≡ Some y = at in cc)
row_set pool (m ∷ ns) (z ∷ xs) zero n x y are at e = (e, are.1)
row_set pool (m ∷ ns) (z ∷ xs) (suc i) n x y are at e = (are.0, row_set pool ns xs i n x y are.1 at e)

-- one more value at the end
pub row_more : {X : Type 0} (pool : List X) (ns : List ℕ) (xs : List X) (n : ℕ) (x : X) → AreNumbersOf pool ns xs → length xs < length ns → slice_get pool n ≡ Some x → AreNumbersOf pool (slice_set ns (length xs) n) (xs ++ x ∷ [])
row_more pool [] xs n x are lt e = absurd (omega (arith, lt))
row_more pool (m ∷ ns) [] n x are lt e = (e, are.1)
row_more pool (m ∷ ns) (z ∷ xs) n x are lt e = (are.0, row_more pool ns xs n x are.1 (omega (arith, lt)) e)

-- each value has a number
pub row_has : {X : Type 0} (pool : List X) (ns : List ℕ) (xs : List X) (i : ℕ) (x : X) → AreNumbersOf pool ns xs → slice_get xs i ≡ Some x → (n : ℕ) × (slice_get pool n ≡ Some x)
row_has pool [] [] i x are e = absurd (let h : None ≡ Some x = e in cc)
row_has pool [] (z ∷ xs) i x are e = absurd are
row_has pool (m ∷ ns) [] i x are e = absurd (let h : None ≡ Some x = e in cc)
row_has pool (m ∷ ns) (z ∷ xs) zero x are e = let h : z ≡ x = cc in (m, are.0 ∙ ap Some h)
row_has pool (m ∷ ns) (z ∷ xs) (suc i) x are e = row_has pool ns xs i x are.1 e

pub got : {X : Type 0} (xs : List X) (i : ℕ) (x : X) → x ≡ get_or xs i x → i < length xs → slice_get xs i ≡ Some x
got [] i x e lt = absurd (omega (arith, lt))
got (y ∷ xs) zero x e lt = ap Some (sym e)
got (y ∷ xs) (suc i) x e lt = got xs i x e (omega (arith, lt))

-- one more of the values
row_next : {X : Type 0} (pool : List X) (ns : List ℕ) (all : List X) (i n : ℕ) (x : X) → AreNumbersOf pool ns (take i all) → i < length ns → slice_get all i ≡ Some x → slice_get pool n ≡ Some x → AreNumbersOf pool (slice_set ns i n) (take (suc i) all)
row_next pool [] all i n x are lt at e = absurd (omega (arith, lt))
row_next pool (m ∷ ns) [] i n x are lt at e = absurd (let h : None ≡ Some x = at in cc)
row_next pool (m ∷ ns) (y ∷ all) zero n x are lt at e = let h : y ≡ x = cc in (e ∙ ap Some (sym h), are.1)
row_next pool (m ∷ ns) (y ∷ all) (suc i) n x are lt at e = (are.0, row_next pool ns all i n x are.1 (omega (arith, lt)) at e)

pub row_step : {X : Type 0} (old new : List X) (ns : List ℕ) (all : List X) (i n : ℕ) (x : X) → AreNumbersOf old ns (take i all) → Extends old new → length ns ≡ 5 → length all ≤ 5 → i < length all → x ≡ get_or all i x → slice_get new n ≡ Some x → AreNumbersOf new (slice_set ns i n) (take (i + 1) all)
row_step old new ns all i n x are ext wide few lt at e =
    rw add-one (row_next new ns all i n x (more_numbers old new ns (take i all) ext are) (omega (arith, wide, few, lt)) (got all i x at lt) e)

pub no_row : {X : Type 0} (pool : List X) (all : List X) (i : ℕ) (x : X) → i < length all → x ≡ get_or all i x → IsNowhere pool x → (ns : List ℕ) → AreNumbersOf pool ns all → ⊥
no_row pool all i x lt at none ns are = let h = row_has pool ns all i x are (got all i x at lt) in none h.0 h.1

-- what is nowhere now was nowhere before
pub was_nowhere : {X : Type 0} (old new : List X) (x : X) → Extends old new → IsNowhere new x → IsNowhere old x
was_nowhere old new x more none i at = none i (more i x at)
