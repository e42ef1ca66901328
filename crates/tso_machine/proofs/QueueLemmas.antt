-- What is put into a queue and taken back leaves it as it was.
use Rattle.std.proofs.Common.{◌≡◌, ℕ, zero, suc, ◌+◌, ◌-◌, ◌<◌, ◌≤◌, List, [], ◌∷◌, ◌++◌, length, take, drop, refl, ap, arith, add-one}
use Rattle.tso_machine.specs.declared.buffer.Entry.{Entry}
use Rattle.tso_machine.specs.Queue.{Queue, drained, undrained}

take-one_more : {X : Type 0} (d : ℕ) (xs : List X) → take (suc d) xs ≡ take d xs ++ take 1 (drop d xs)
take-one_more zero [] = refl
take-one_more zero (x ∷ xs) = refl
take-one_more (suc d) [] = refl
take-one_more (suc d) (x ∷ xs) = ap (λ l. x ∷ l) (take-one_more d xs)

drop-one_more : {X : Type 0} (d : ℕ) (xs : List X) → drop (suc d) xs ≡ drop 1 (drop d xs)
drop-one_more zero [] = refl
drop-one_more zero (x ∷ xs) = refl
drop-one_more (suc d) [] = refl
drop-one_more (suc d) (x ∷ xs) = drop-one_more d xs

queue : List Entry → List Entry → Queue
queue past live = record { past = past; live = live }

pub drained_is : (d : ℕ) (xs : List Entry)
    → let after : Queue = record { past = take (d + 1) xs; live = drop (d + 1) xs } in after ≡ drained (record { past = take d xs; live = drop d xs })
drained_is d xs = rw (add-one, take-one_more d xs, drop-one_more d xs) refl

take-before : {X : Type 0} (d : ℕ) (xs : List X) → take d (take (suc d) xs) ≡ take d xs
take-before zero [] = refl
take-before zero (x ∷ xs) = refl
take-before (suc d) [] = refl
take-before (suc d) (x ∷ xs) = ap (λ l. x ∷ l) (take-before d xs)

drop-before : {X : Type 0} (d : ℕ) (xs : List X) → drop d (take (suc d) xs) ++ drop (suc d) xs ≡ drop d xs
drop-before zero [] = refl
drop-before zero (x ∷ xs) = refl
drop-before (suc d) [] = refl
drop-before (suc d) (x ∷ xs) = drop-before d xs

length-taken : {X : Type 0} (d : ℕ) (xs : List X) → d ≤ length xs → length (take d xs) ≡ d
length-taken zero [] e = refl
length-taken zero (x ∷ xs) e = refl
length-taken (suc d) [] e = absurd (omega arith)
length-taken (suc d) (x ∷ xs) e = ap suc (length-taken d xs (omega arith))

undrained_from : (d n : ℕ) (xs : List Entry) → length (take (suc d) xs) ≡ suc d
    → let after : Queue = record { past = take d xs; live = drop d xs } in after ≡ undrained (record { past = take (suc d) xs; live = drop (suc d) xs })
undrained_from d n xs e =
    let less : length (take (suc d) xs) - 1 ≡ d = omega (arith, e) in
    rw (less, take-before d xs, drop-before d xs) refl

pub undrained_is : (d : ℕ) (xs : List Entry) → d ≤ length xs → 0 < length (take d xs)
    → let after : Queue = record { past = take (d - 1) xs; live = drop (d - 1) xs } in after ≡ undrained (record { past = take d xs; live = drop d xs })
undrained_is zero xs within some = absurd (omega (arith, length-taken zero xs within))
undrained_is (suc d) xs within some =
    let less : suc d - 1 ≡ d = omega arith in
    rw less (undrained_from d d xs (length-taken (suc d) xs within))
