-- What is added to a text piece by piece.
use Rattle.std.proofs.Common.{◌≡◌, ◌∙◌, ℕ, zero, suc, ◌+◌, ◌<◌, arith, List, [], ◌∷◌, ◌++◌, length, drop, get_or, refl, sym, ap, append_assoc, append-nil, add-one, drop-cons}
use Rattle.tso_machine.specs.declared.machine.Thread.{Thread}
use Rattle.tso_prog.specs.declared.client.Array.{Array}
use Rattle.tso_show.specs.Buffers.{holder_text, holders_text}
use Rattle.tso_show.specs.States.{buffer_line, buffer_lines}

pub ruleset joins = (append_assoc, append-nil)

pub three : (t0 t1 t2 t3 a b c : List ℕ) → t1 ≡ t0 ++ a → t2 ≡ t1 ++ b → t3 ≡ t2 ++ c → t3 ≡ t0 ++ (a ++ (b ++ c))
three t0 t1 t2 t3 a b c e1 e2 e3 = rw (e3, e2, e1) (simp append_assoc)

pub two : (t0 t1 t2 a b : List ℕ) → t1 ≡ t0 ++ a → t2 ≡ t1 ++ b → t2 ≡ t0 ++ (a ++ b)
two t0 t1 t2 a b e1 e2 = rw (e2, e1) (append_assoc t0 a b)

pub four : (t0 t1 t2 t3 t4 a b c d : List ℕ) → t1 ≡ t0 ++ a → t2 ≡ t1 ++ b → t3 ≡ t2 ++ c → t4 ≡ t3 ++ d → t4 ≡ t0 ++ (a ++ (b ++ (c ++ d)))
four t0 t1 t2 t3 t4 a b c d e1 e2 e3 e4 = rw (e4, e3, e2, e1) (simp append_assoc)

-- a piece was added, and the rest is to come
pub grown : (t t' x whole rest target : List ℕ) → t' ≡ t ++ x → whole ≡ x ++ rest → t ++ whole ≡ target → t' ++ rest ≡ target
grown t t' x whole rest target e w i = ap (λ (y : List ℕ). y ++ rest) e ∙ append_assoc t x rest ∙ ap (λ (y : List ℕ). t ++ y) (sym w) ∙ i

dropped : {X : Type 0} (xs : List X) (k : ℕ) (d : X) → k < length xs → drop k xs ≡ get_or xs k d ∷ drop (k + 1) xs
dropped xs k d there = drop-cons xs k d there ∙ ap (λ (n : ℕ). get_or xs k d ∷ drop n xs) (sym (add-one k))

pub holders_at : (reader place k : ℕ) (ts : List Thread) (d : Thread) → k < length ts
    → holders_text reader place k (drop k ts) ≡ holder_text reader place k (get_or ts k d) ++ holders_text reader place (k + 1) (drop (k + 1) ts)
holders_at reader place k ts d there = ap (holders_text reader place k) (dropped ts k d there)

pub lines_at : (arrays : List Array) (k : ℕ) (ts : List Thread) (d : Thread) → k < length ts
    → buffer_lines arrays k (drop k ts) ≡ buffer_line arrays k (get_or ts k d) ++ buffer_lines arrays (k + 1) (drop (k + 1) ts)
lines_at arrays k ts d there = ap (buffer_lines arrays k) (dropped ts k d there)
