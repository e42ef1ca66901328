-- Clients with the same threads in another order, and clients that cover through others.
use Rattle.std.proofs.Common.{◌≡◌, ◌≢◌, ℕ, ◌<◌, List, [], ◌++◌, length, slice_index_or, refl, sym, ◌∙◌, ap, arith, append_assoc, inl, inr, ◌⊎◌}
use Rattle.std.proofs.Math.Decide.{ℕ_discrete}
use Rattle.std.proofs.lemmas.List.{append-nil}
use Rattle.std.proofs.lemmas.List.Edits.{length-swap, swapped_from_swap}
use Rattle.std.proofs.lemmas.List.Sorted.{IsPermutation-keeps}
use Rattle.std.specs.List.{swap}
use Rattle.std.specs.List.Sorted.{IsPermutation}
use Rattle.tso_line.specs.declared.instruction.CallKind.{CallKind}
use Rattle.tso_line.specs.declared.instruction.Mode.{Mode}
use Rattle.tso_client.specs.Clients.{ClientCoversIsTransitive, ClientsCoverThemselves, IsNoStricter, OrderIsNothing, thread_calls}

-- ONE SWAP

swapped : (i j m : ℕ) → Dec (m ≡ i) → Dec (m ≡ j) → ℕ
swapped i j m (yes p) d = j
swapped i j m (no n) (yes p) = i
swapped i j m (no n) (no n') = m

-- where a swap of i and j takes m
taken : ℕ → ℕ → ℕ → ℕ
taken i j m = swapped i j m (ℕ_discrete m i) (ℕ_discrete m j)

abbrev IsTaken : (i j m k : ℕ) → Type 0
IsTaken i j m k = ((m ≡ i) × (k ≡ j)) ⊎ (((m ≡ j) × (k ≡ i)) ⊎ ((m ≢ i) × (m ≢ j) × (k ≡ m)))

is_taken : (i j m : ℕ) → IsTaken i j m (taken i j m)
unfolding taken swapped
is_taken i j m = go (ℕ_discrete m i) (ℕ_discrete m j)
  where
    go : (d : Dec (m ≡ i)) (d' : Dec (m ≡ j)) → IsTaken i j m (swapped i j m d d')
    go (yes p) d = inl (p, refl)
    go (no n) (yes p) = inr (inl (p, refl))
    go (no n) (no n') = inr (inr (n, n', refl))

taken_apart : (i j m n : ℕ) → taken i j m ≡ taken i j n → m ≡ n
taken_apart i j m n q = let a = is_taken i j m in let b = is_taken i j n in omega (arith, a, b, q)

taken_below : (i j m size : ℕ) → i < size → j < size → m < size → taken i j m < size
taken_below i j m size a b c = let t = is_taken i j m in omega (arith, t, a, b, c)

-- the threads of the one have places among the other's, with the same calls
record Same (xs ys : List (List CallKind)) : Type 0 where
  place : ℕ → ℕ
  within : (i : ℕ) → i < length xs → place i < length ys
  apart : (i j : ℕ) → i < length xs → j < length xs → place i ≡ place j → i ≡ j
  calls : (i : ℕ) → i < length xs → slice_index_or ys (place i) [] ≡ slice_index_or xs i []

same_swap : (xs ys : List (List CallKind)) (i j : ℕ) → i < length ys → j < length ys → Same xs ys → Same xs (swap ys i j)
same_swap xs ys i j a b s = record {
  place = λ k. taken i j (s.place k);
  within = λ k lt. let w = s.within k lt in let t = taken_below i j (s.place k) (length ys) a b w in omega (arith, t, length-swap ys i j);
  apart = λ k l x y q. s.apart k l x y (taken_apart i j (s.place k) (s.place l) q);
  calls = λ k lt. there (s.place k) (taken i j (s.place k)) (is_taken i j (s.place k)) ∙ s.calls k lt;
}
  where
    there : (m k : ℕ) → IsTaken i j m k → slice_index_or (swap ys i j) k [] ≡ slice_index_or ys m []
    there m k t =
        let (at_i, at_j, else_at) = swapped_from_swap ys (swap ys i j) i j [] a b refl in
        elim t [
          | inl (p, q) ↦ rw (p, q) at_j
          | inr (inl (p, q)) ↦ rw (p, q) at_i
          | inr (inr (n, n', q)) ↦ rw q (else_at m n n')
        ]

same_threads : (xs ys : List (List CallKind)) → IsPermutation xs ys → Same xs ys
same_threads xs ys p =
    IsPermutation-keeps xs (Same xs) (record { place = λ i. i; within = λ i lt. lt; apart = λ i j a b q. q; calls = λ i lt. refl }) (λ l i j a b s. same_swap xs l i j a b s) ys p

pub order_is_nothing : OrderIsNothing
order_is_nothing small large alike p =
    let s = same_threads small.threads large.threads p in
    (alike, (s.place, record { within = s.within; apart = s.apart; calls = λ i lt. ([], s.calls i lt ∙ sym (append-nil _)) }))

-- CLIENTS THAT COVER THEMSELVES, AND THROUGH OTHERS

pub clients_cover_themselves : ClientsCoverThemselves
clients_cover_themselves c = (
  record { capacity = refl; mode = inl refl; arrays = refl; push = refl; pop = refl; prologue = refl },
  ((λ i. i), record { within = λ i lt. lt; apart = λ i j a b q. q; calls = λ i lt. ([], sym (append-nil _)) }),
)

modes_through : (a b c : Mode) → IsNoStricter a b → IsNoStricter b c → IsNoStricter a c
modes_through a b c (inl e) (inl f) = inl (e ∙ f)
modes_through a b c (inl e) (inr weak) = inr (e ∙ weak)
modes_through a b c (inr weak) n = inr weak

pub client_covers_is_transitive : ClientCoversIsTransitive
client_covers_is_transitive a b c (s, (e, p)) (t, (f, q)) = (
  record {
    capacity = t.capacity ∙ s.capacity;
    mode = modes_through a.mode b.mode c.mode s.mode t.mode;
    arrays = t.arrays ∙ s.arrays;
    push = t.push ∙ s.push;
    pop = t.pop ∙ s.pop;
    prologue = t.prologue ∙ s.prologue;
  },
  (
    (λ i. f (e i)),
    record {
      within = λ i lt. q.within (e i) (p.within i lt);
      apart = λ i j x y same. p.apart i j x y (q.apart (e i) (e j) (p.within i x) (p.within j y) same);
      calls = λ i lt.
          let (xs, is) = p.calls i lt in
          let (ys, are) = q.calls (e i) (p.within i lt) in
          (xs ++ ys, are ∙ (ap (λ r. r ++ ys) is ∙ append_assoc (thread_calls a i) xs ys));
    },
  ),
)
