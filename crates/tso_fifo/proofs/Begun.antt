-- The calls that an order may have are those that have begun.
use Rattle.std.proofs.Common.{◌≡◌, ◌⊎◌, inl, inr, ℕ, zero, suc, ◌+◌, List, [], ◌∷◌, ◌++◌, length, get_or, Some, option_map, slice_get, refl, sym, ap, ◌∙◌, arith}
use Rattle.std.proofs.lemmas.Option.{same_Some}
use Rattle.tso_fifo.proofs.Entries.{begun_of, seen_at}
use Rattle.tso_fifo.specs.Candidates.{AreCandidates, all_candidates, thread_candidates}
use Rattle.tso_fifo.specs.declared.candidate.Candidate.{Candidate}
use Rattle.tso_hist.specs.declared.call.Call.{Call}
use Rattle.tso_hist.specs.Views.{called_view, history_view}
use Rattle.tso_prog.specs.Views.{answer_view, call_view}

abbrev candidate : ℕ → ℕ → Call → Candidate
candidate t k c = record { thread = t; call = k; kind = c.kind; answer = c.answer }

append_cases : {X : Type 0} (xs ys : List X) (i : ℕ) (x : X) → slice_get (xs ++ ys) i ≡ Some x → (slice_get xs i ≡ Some x) ⊎ ((m : ℕ) × (slice_get ys m ≡ Some x) × (length xs + m ≡ i))
append_cases [] ys i x e = inr (i, e, omega arith)
append_cases (y ∷ xs) ys zero x e = inl e
append_cases (y ∷ xs) ys (suc i) x e = elim (append_cases xs ys i x e) [ inl f ↦ inl f | inr (m, f, n) ↦ inr (m, f, omega (arith, n)) ]

append_left : {X : Type 0} (xs ys : List X) (i : ℕ) (x : X) → slice_get xs i ≡ Some x → slice_get (xs ++ ys) i ≡ Some x
append_left [] ys i x e = cc
append_left (y ∷ xs) ys zero x e = e
append_left (y ∷ xs) ys (suc i) x e = append_left xs ys i x e

append_right : {X : Type 0} (xs ys : List X) (i : ℕ) (x : X) → slice_get ys i ≡ Some x → (m : ℕ) × (slice_get (xs ++ ys) m ≡ Some x)
append_right [] ys i x e = (i, e)
append_right (y ∷ xs) ys i x e = let (m, f) = append_right xs ys i x e in (suc m, f)

thread_get : (t k : ℕ) (cs : List Call) (i : ℕ) (p : Candidate) → slice_get (thread_candidates t k cs) i ≡ Some p → (c : Call) × (slice_get cs i ≡ Some c) × (p ≡ candidate t (k + i) c)
thread_get t k [] i p e = cc
thread_get t k (c ∷ cs) zero p e =
    let z : k ≡ k + 0 = omega arith in
    (c, refl, sym (same_Some (candidate t k c) p e) ∙ ap (λ (n : ℕ). candidate t n c) z)
thread_get t k (c ∷ cs) (suc i) p e =
    let (d, at, is) = thread_get t (k + 1) cs i p e in
    let n : k + 1 + i ≡ k + suc i = omega arith in
    (d, at, is ∙ ap (λ (m : ℕ). candidate t m d) n)

thread_put : (t k : ℕ) (cs : List Call) (i : ℕ) (c : Call) → slice_get cs i ≡ Some c → slice_get (thread_candidates t k cs) i ≡ Some (candidate t (k + i) c)
thread_put t k [] i c e = cc
thread_put t k (d ∷ cs) zero c e =
    let z : k ≡ k + 0 = omega arith in
    ap (λ (x : Call). Some (candidate t k x)) (same_Some d c e) ∙ ap (λ (n : ℕ). Some (candidate t n c)) z
thread_put t k (d ∷ cs) (suc i) c e =
    let n : k + 1 + i ≡ k + suc i = omega arith in
    thread_put t (k + 1) cs i c e ∙ ap (λ (m : ℕ). Some (candidate t m c)) n

all_get : (t : ℕ) (h : List (List Call)) (i : ℕ) (p : Candidate) → slice_get (all_candidates t h) i ≡ Some p → (u j : ℕ) × (c : Call) × (slice_get (get_or h u []) j ≡ Some c) × (p ≡ candidate (t + u) j c)
all_get t [] i p e = cc
all_get t (cs ∷ h) i p e =
    elim (append_cases (thread_candidates t 0 cs) (all_candidates (t + 1) h) i p e) [
      | inl f ↦
          let (c, at, is) = thread_get t 0 cs i p f in
          let z : t ≡ t + 0 = omega arith in
          let n : 0 + i ≡ i = omega arith in
          (0, i, c, at, is ∙ ap (λ (m : ℕ). candidate t m c) n ∙ ap (λ (m : ℕ). candidate m i c) z)
      | inr (m, f, n) ↦
          let (u, j, c, at, is) = all_get (t + 1) h m p f in
          let z : t + 1 + u ≡ t + suc u = omega arith in
          (suc u, j, c, at, is ∙ ap (λ (v : ℕ). candidate v j c) z)
    ]

all_put : (t : ℕ) (h : List (List Call)) (u j : ℕ) (c : Call) → slice_get (get_or h u []) j ≡ Some c → (i : ℕ) × (slice_get (all_candidates t h) i ≡ Some (candidate (t + u) j c))
all_put t [] u j c e = cc
all_put t (cs ∷ h) zero j c e =
    let z : t ≡ t + 0 = omega arith in
    let n : 0 + j ≡ j = omega arith in
    (j, append_left (thread_candidates t 0 cs) (all_candidates (t + 1) h) j (candidate (t + 0) j c) (thread_put t 0 cs j c e ∙ ap (λ (m : ℕ). Some (candidate t m c)) n ∙ ap (λ (m : ℕ). Some (candidate m j c)) z))
all_put t (cs ∷ h) (suc u) j c e =
    let (i, at) = all_put (t + 1) h u j c e in
    let z : t + 1 + u ≡ t + suc u = omega arith in
    append_right (thread_candidates t 0 cs) (all_candidates (t + 1) h) i (candidate (t + suc u) j c) (at ∙ ap (λ (v : ℕ). Some (candidate v j c)) z)

all_once : (t : ℕ) (h : List (List Call)) (i j : ℕ) (p q : Candidate) → slice_get (all_candidates t h) i ≡ Some p → slice_get (all_candidates t h) j ≡ Some q → p.thread ≡ q.thread → p.call ≡ q.call → i ≡ j
all_once t [] i j p q e f same number = cc
all_once t (cs ∷ h) i j p q e f same number =
    by (append_cases (thread_candidates t 0 cs) (all_candidates (t + 1) h) i p e) (append_cases (thread_candidates t 0 cs) (all_candidates (t + 1) h) j q f) (all_once (t + 1) h)
  where
    Cases : ℕ → Candidate → Type 0
    Cases n x = (slice_get (thread_candidates t 0 cs) n ≡ Some x) ⊎ ((m : ℕ) × (slice_get (all_candidates (t + 1) h) m ≡ Some x) × (length (thread_candidates t 0 cs) + m ≡ n))

    by : Cases i p → Cases j q → ((i j : ℕ) (p q : Candidate) → slice_get (all_candidates (t + 1) h) i ≡ Some p → slice_get (all_candidates (t + 1) h) j ≡ Some q → p.thread ≡ q.thread → p.call ≡ q.call → i ≡ j) → i ≡ j
    by (inl a) (inl b) rest =
        let (c, at, is) = thread_get t 0 cs i p a in
        let (d, at', is') = thread_get t 0 cs j q b in
        let m = ap (λ (x : Candidate). x.call) is in
        let n = ap (λ (x : Candidate). x.call) is' in
        omega (arith, m, n, number)
    by (inl a) (inr (n, b, e')) rest =
        let (c, at, is) = thread_get t 0 cs i p a in
        let (u, k, d, at', is') = all_get (t + 1) h n q b in
        let x = ap (λ (z : Candidate). z.thread) is in
        let y = ap (λ (z : Candidate). z.thread) is' in
        absurd (omega (arith, x, y, same))
    by (inr (n, b, e')) (inl a) rest =
        let (c, at, is) = thread_get t 0 cs j q a in
        let (u, k, d, at', is') = all_get (t + 1) h n p b in
        let x = ap (λ (z : Candidate). z.thread) is in
        let y = ap (λ (z : Candidate). z.thread) is' in
        absurd (omega (arith, x, y, same))
    by (inr (m, a, e')) (inr (n, b, f')) rest =
        let r = rest m n p q a b same number in omega (arith, e', f', r)

pub candidates_are : (h : List (List Call)) → AreCandidates (all_candidates 0 h) (history_view h)
candidates_are h = record {
  begun = λ i p e.
      let (u, j, c, at, is) = all_get 0 h i p e in
      let thread : u ≡ p.thread = (let x = ap (λ (z : Candidate). z.thread) is in omega (arith, x)) in
      let number : j ≡ p.call = sym (ap (λ (z : Candidate). z.call) is) in
      let at' : slice_get (get_or h p.thread []) p.call ≡ Some c = ap (λ (v : ℕ). slice_get (get_or h v []) p.call) (sym thread) ∙ ap (slice_get (get_or h u [])) (sym number) ∙ at in
      (called_view c, seen_at h p.thread p.call c at', ap (λ (z : Candidate). call_view z.kind) (sym is), ap (λ (z : Candidate). option_map answer_view z.answer) (sym is));
  all = λ t k d e.
      let (c, at, is) = begun_of h t k d e in
      let (i, got) = all_put 0 h t k c at in
      let z : 0 + t ≡ t = omega arith in
      (i, candidate (0 + t) k c, got, z, refl);
  once = all_once 0 h;
}
