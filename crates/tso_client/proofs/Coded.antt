-- Threads placed one by one, and their places in one number.
use Rattle.std.proofs.Common.{◌≡◌, ℕ, zero, suc, ◌+◌, ◌*◌, ◌/◌, ◌%◌, ◌<◌, ◌≤◌, length, refl, sym, ◌∙◌, subst, arith}
use Rattle.std.proofs.Math.Decide.{dec_lt}
use Rattle.tso_client.specs.Covering.{IsBeginning}
use Rattle.tso_client.specs.Clients.{ArePlaced, IsPlacedAt, place_in, places_of, thread_calls}
use Rattle.tso_prog.specs.declared.client.Client.{Client}

pub all_placed : (e : ℕ → ℕ) (small large : Client) → ((i : ℕ) → i < length small.threads → IsPlacedAt e small large i) → ArePlaced e small large
all_placed e small large all = record {
  within = λ i lt. (all i lt).within;
  apart = λ i j a b q. go i j a b q (dec_lt i j) (dec_lt j i);
  calls = λ i lt. (all i lt).calls;
}
  where
    go : (i j : ℕ) → i < length small.threads → j < length small.threads → e i ≡ e j → Dec (i < j) → Dec (j < i) → i ≡ j
    go i j a b q (yes lt) d = absurd ((all j b).apart i lt q)
    go i j a b q (no n) (yes lt) = absurd ((all i a).apart j lt (sym q))
    go i j a b q (no n) (no n') = omega arith

-- by numbers that are the same
moved : (e f : ℕ → ℕ) (small large : Client) → ((i : ℕ) → i < length small.threads → f i ≡ e i) → ArePlaced e small large → ArePlaced f small large
moved e f small large same p = record {
  within = λ i lt. let w = p.within i lt in omega (arith, w, same i lt);
  apart = λ i j a b q. p.apart i j a b (sym (same i a) ∙ (q ∙ same j b));
  calls = λ i lt. subst (λ (k : ℕ). IsBeginning (thread_calls small i) (thread_calls large k)) (sym (same i lt)) (p.calls i lt);
}

-- one number of two bits, or none
digit : (e : ℕ → ℕ) (n i : ℕ) → Dec (i < n) → ℕ
digit e n i (yes lt) = e i
digit e n i (no b) = 0

digit_is : (e : ℕ → ℕ) (n i : ℕ) (d : Dec (i < n)) → i < n → digit e n i d ≡ e i
unfolding digit
digit_is e n i (yes a) lt = refl
digit_is e n i (no b) lt = absurd (b lt)

digit_small : (e : ℕ → ℕ) (n i : ℕ) (d : Dec (i < n)) → (i < n → e i < 4) → digit e n i d < 4
unfolding digit
digit_small e n i (yes a) small = small a
digit_small e n i (no b) small = omega arith

in_one : (a b c d : ℕ) → a < 4 → b < 4 → c < 4 → d < 4 → (k : ℕ) × (k < 256) × (k % 4 ≡ a) × (k / 4 % 4 ≡ b) × (k / 16 % 4 ≡ c) × (k / 64 % 4 ≡ d)
in_one a b c d p q r s = (a + 4 * b + 16 * c + 64 * d, omega arith, omega arith, omega arith, omega arith, omega arith)

pub coded : (e : ℕ → ℕ) (small large : Client) → length small.threads ≤ 4 → length large.threads ≤ 4 → ArePlaced e small large
    → (k : ℕ) × (k < 256) × ArePlaced (place_in (places_of k)) small large
coded e small large few few' p =
    let n : ℕ = length small.threads in
    let low : (i : ℕ) → i < n → e i < 4 = λ i lt. let w = p.within i lt in omega (arith, w, few') in
    let at : ℕ → ℕ = λ i. digit e n i (dec_lt i n) in
    let small_at : (i : ℕ) → at i < 4 = λ i. digit_small e n i (dec_lt i n) (low i) in
    let (k, lt, a, b, c, d) = in_one (at 0) (at 1) (at 2) (at 3) (small_at 0) (small_at 1) (small_at 2) (small_at 3) in
    (k, lt, moved e (place_in (places_of k)) small large (same k a b c d) p)
  where
    same : (k : ℕ) → k % 4 ≡ digit e (length small.threads) 0 (dec_lt 0 (length small.threads)) → k / 4 % 4 ≡ digit e (length small.threads) 1 (dec_lt 1 (length small.threads))
        → k / 16 % 4 ≡ digit e (length small.threads) 2 (dec_lt 2 (length small.threads)) → k / 64 % 4 ≡ digit e (length small.threads) 3 (dec_lt 3 (length small.threads))
        → (i : ℕ) → i < length small.threads → place_in (places_of k) i ≡ e i
    same k a b c d zero lt = a ∙ digit_is e (length small.threads) 0 (dec_lt 0 (length small.threads)) lt
    same k a b c d (suc zero) lt = b ∙ digit_is e (length small.threads) 1 (dec_lt 1 (length small.threads)) lt
    same k a b c d (suc (suc zero)) lt = c ∙ digit_is e (length small.threads) 2 (dec_lt 2 (length small.threads)) lt
    same k a b c d (suc (suc (suc zero))) lt = d ∙ digit_is e (length small.threads) 3 (dec_lt 3 (length small.threads)) lt
    same k a b c d (suc (suc (suc (suc i)))) lt = absurd (omega (arith, lt, few))
