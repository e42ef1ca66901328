-- Reading items one after the other, as a loop does.
use Rattle.std.proofs.Common.{◌≡◌, ℕ, suc, ◌-◌, ◌+◌, ◌≤◌, ◌<◌, List, [], ◌∷◌, ◌++◌, Option, Some, None, refl, sym, ap, ◌∙◌, append_assoc, arith}
use Rattle.std.proofs.lemmas.List.{append-nil}
use Rattle.tso_code.specs.declared.code.ReadError.{ReadError}
use Rattle.tso_code.specs.declared.code.ReadError.TheVariants.{Malformed, Memory}
use Rattle.tso_code.specs.Fields.{Fails, items_at}
use Rattle.tso_code.specs.Numbers.{◌>>=◌, Reading}

-- what was read before, and what is still read
abbrev pub with_front : {X : Type 0} → List X → Option (List X × List ℕ) → Option (List X × List ℕ)
with_front front read = read >>= λ x. Some (front ++ x.0, x.1)

regroup : {X : Type 0} (front : List X) (n : X) (read : Option (List X × List ℕ)) → with_front front (read >>= λ x. Some (n ∷ x.0, x.1)) ≡ with_front (front ++ n ∷ []) read
regroup {X} front n (Some x) = ap (λ (ns : List X). Some (ns, x.1)) (simp append_assoc)
regroup front n None = refl

pub goes_on : {X : Type 0} (r : Reading X) (front : List X) (count i : ℕ) (bytes : List ℕ) (n : X) (after : List ℕ) (total : Option (List X × List ℕ)) → i < count → r bytes ≡ Some (n, after)
    → with_front front (items_at r (count - i) bytes) ≡ total → with_front (front ++ n ∷ []) (items_at r (count - (i + 1)) after) ≡ total
unfolding items_at
goes_on r front count i bytes n after total lt h so_far =
    let k : count - i ≡ suc (count - (i + 1)) = omega arith in
    let one : with_front front (items_at r (count - i) bytes) ≡ with_front (front ++ n ∷ []) (items_at r (count - (i + 1)) after) = rw (k, h) (regroup front n (items_at r (count - (i + 1)) after)) in
    sym one ∙ so_far

pub ends : {X : Type 0} (r : Reading X) (e : ReadError) (front : List X) (count i : ℕ) (bytes : List ℕ) (total : Option (List X × List ℕ)) → i < count → Fails e (r bytes)
    → with_front front (items_at r (count - i) bytes) ≡ total → Fails e total
unfolding items_at
ends r Memory front count i bytes total lt h so_far = tt
ends r Malformed front count i bytes total lt h so_far =
    let k : count - i ≡ suc (count - (i + 1)) = omega arith in
    let one : with_front front (items_at r (count - i) bytes) ≡ None = rw (k, h) refl in
    sym so_far ∙ one

pub is_done : {X : Type 0} (r : Reading X) (front : List X) (count i : ℕ) (bytes : List ℕ) (total : Option (List X × List ℕ)) → count ≤ i → with_front front (items_at r (count - i) bytes) ≡ total → total ≡ Some (front, bytes)
unfolding items_at
is_done {X} r front count i bytes total le so_far =
    let k : count - i ≡ 0 = omega arith in
    let one : with_front front (items_at r (count - i) bytes) ≡ Some (front, bytes) = rw k (ap (λ (ns : List X). Some (ns, bytes)) (append-nil front)) in
    sym so_far ∙ one
