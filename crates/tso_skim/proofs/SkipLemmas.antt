-- Passing over what is put together of parts is passing over the parts, one after the other.
use Rattle.std.proofs.Common.{◌≡◌, ℕ, zero, suc, ◌-◌, ◌+◌, ◌≤◌, ◌<◌, List, ◌∷◌, Option, Some, None, refl, sym, ◌∙◌, arith}
use Rattle.tso_code.specs.Fields.{at1, at2, at3, at4, items_at}
use Rattle.tso_code.specs.Numbers.{◌>>=◌, Reading}
use Rattle.tso_skim.specs.Skips.{after}

-- behind the one, then behind the other
abbrev pub behind : Option (List ℕ) → (List ℕ → Option (List ℕ)) → Option (List ℕ)
behind (Some rest) f = f rest
behind None f = None

after_made : {A X : Type 0} (o : Option (A × List ℕ)) (make : A → X) → after (o >>= λ a. Some (make a.0, a.1)) ≡ after o
after_made (Some a) make = refl
after_made None make = refl

after_bound : {A X : Type 0} (o : Option (A × List ℕ)) (f : A × List ℕ → Option (X × List ℕ)) (g : List ℕ → Option (List ℕ)) → ((a : A × List ℕ) → after (f a) ≡ g a.1) → after (o >>= f) ≡ behind (after o) g
after_bound (Some a) f g h = h a
after_bound None f g h = refl

pub after-at1 : {A X : Type 0} (make : A → X) (r : Reading A) (bytes : List ℕ) → after (at1 make r bytes) ≡ after (r bytes)
after-at1 make r bytes = after_made (r bytes) make

pub after-at2 : {A B X : Type 0} (make : A → B → X) (r : Reading A) (s : Reading B) (bytes : List ℕ) → after (at2 make r s bytes) ≡ behind (after (r bytes)) (λ rest. after (s rest))
after-at2 {A} {B} {X} make r s bytes =
    after_bound (r bytes) (λ a. s a.1 >>= λ b. Some (make a.0 b.0, b.1)) (λ rest. after (s rest)) (λ a. after_made (s a.1) (make a.0))

pub after-at3 : {A B C X : Type 0} (make : A → B → C → X) (r : Reading A) (s : Reading B) (t : Reading C) (bytes : List ℕ)
    → after (at3 make r s t bytes) ≡ behind (after (r bytes)) (λ rest. behind (after (s rest)) (λ last. after (t last)))
after-at3 {A} {B} {C} {X} make r s t bytes =
    after_bound (r bytes) (λ a. s a.1 >>= λ b. t b.1 >>= λ c. Some (make a.0 b.0 c.0, c.1)) (λ rest. behind (after (s rest)) (λ last. after (t last)))
    (λ a. after_bound (s a.1) (λ b. t b.1 >>= λ c. Some (make a.0 b.0 c.0, c.1)) (λ last. after (t last)) (λ b. after_made (t b.1) (make a.0 b.0)))

pub after-at4 : {A B C D X : Type 0} (make : A → B → C → D → X) (r : Reading A) (s : Reading B) (t : Reading C) (u : Reading D) (bytes : List ℕ)
    → after (at4 make r s t u bytes) ≡ behind (after (r bytes)) (λ rest. behind (after (s rest)) (λ more. behind (after (t more)) (λ last. after (u last))))
after-at4 {A} {B} {C} {D} {X} make r s t u bytes =
    after_bound (r bytes) (λ a. s a.1 >>= λ b. t b.1 >>= λ c. u c.1 >>= λ d. Some (make a.0 b.0 c.0 d.0, d.1)) (λ rest. behind (after (s rest)) (λ more. behind (after (t more)) (λ last. after (u last))))
    (λ a. after_bound (s a.1) (λ b. t b.1 >>= λ c. u c.1 >>= λ d. Some (make a.0 b.0 c.0 d.0, d.1)) (λ more. behind (after (t more)) (λ last. after (u last)))
    (λ b. after_bound (t b.1) (λ c. u c.1 >>= λ d. Some (make a.0 b.0 c.0 d.0, d.1)) (λ last. after (u last)) (λ c. after_made (u c.1) (make a.0 b.0 c.0))))

pub after-items_at : {X : Type 0} (r : Reading X) (n : ℕ) (bytes : List ℕ) → after (items_at r (suc n) bytes) ≡ behind (after (r bytes)) (λ rest. after (items_at r n rest))
unfolding items_at
after-items_at {X} r n bytes =
    after_bound (r bytes) (λ first. items_at r n first.1 >>= λ others. Some (first.0 ∷ others.0, others.1)) (λ rest. after (items_at r n rest)) (λ first. after_made (items_at r n first.1) (λ others. first.0 ∷ others))

pub ruleset of_parts = (after-at1, after-at2, after-at3, after-at4, after-items_at)

-- ---- a loop over items

pub goes_on : {X : Type 0} (r : Reading X) (count i : ℕ) (bytes next : List ℕ) (total : Option (List ℕ)) → i < count → Some next ≡ after (r bytes)
    → after (items_at r (count - i) bytes) ≡ total → after (items_at r (count - (i + 1)) next) ≡ total
goes_on r count i bytes next total lt h so_far =
    let k : count - i ≡ suc (count - (i + 1)) = omega arith in
    let one : after (items_at r (count - i) bytes) ≡ after (items_at r (count - (i + 1)) next) = rw (k, after-items_at r (count - (i + 1)) bytes, ← h) refl in
    sym one ∙ so_far

pub stops : {X : Type 0} (r : Reading X) (count i : ℕ) (bytes : List ℕ) (total : Option (List ℕ)) → i < count → None ≡ after (r bytes)
    → after (items_at r (count - i) bytes) ≡ total → None ≡ total
stops r count i bytes total lt h so_far =
    let k : count - i ≡ suc (count - (i + 1)) = omega arith in
    let one : after (items_at r (count - i) bytes) ≡ None = rw (k, after-items_at r (count - (i + 1)) bytes, ← h) refl in
    sym one ∙ so_far

pub is_done : {X : Type 0} (r : Reading X) (count i : ℕ) (bytes : List ℕ) (total : Option (List ℕ)) → count ≤ i → after (items_at r (count - i) bytes) ≡ total → Some bytes ≡ total
unfolding items_at
is_done r count i bytes total le so_far =
    let k : count - i ≡ 0 = omega arith in
    let one : after (items_at r (count - i) bytes) ≡ Some bytes = rw k refl in
    sym one ∙ so_far
