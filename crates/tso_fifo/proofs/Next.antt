-- Which candidates may be the next, and whether returned calls are missing, read from the flags.
use Rattle.std.proofs.Common.{◌≡◌, ℕ, Bool, true, false, List, length, get_or, Option, Some, None, option_map, slice_get, refl, sym, ap, ◌∙◌, subst, arith}
use Rattle.std.proofs.lemmas.Option.{none-some, same_Some, get_or_from_slice_get, slice_get_within, slice_get-get_or}
use Rattle.tso_fifo.proofs.Completing.{told_at}
use Rattle.tso_fifo.specs.Candidates.{AreCandidates}
use Rattle.tso_fifo.specs.Search.{HasAllTaken, IsTaken, Lets, MayBeNext, Problem}
use Rattle.tso_fifo.specs.declared.candidate.Candidate.{Candidate}
use Rattle.tso_model.specs.Linear.{Precedes, call_at}
use Rattle.tso_model.specs.Programs as model
use Rattle.tso_model.specs.States.{Called}
use Rattle.tso_prog.specs.Views.{answer_view}
use Rattle.tso_prog.specs.declared.answer.Answer.{Answer}

-- an item by its place
pub read_at : {X : Type 0} (xs : List X) (i k : ℕ) (d x : X) → i ≡ k → slice_get xs k ≡ Some x → get_or xs i d ≡ x
read_at xs i k d x e at = get_or_from_slice_get xs i x d (ap (slice_get xs) e ∙ at)

pub told_of : {X Y : Type 0} (P : X → Y → Type 0) (x x' : X) (y y' : Y) → x ≡ x' → y ≡ y' → P x y → P x' y'
told_of P x x' y y' e f p = subst (λ z. P z y') e (subst (P x) f p)

pub none_by : (o : Option Answer) → ((o ≡ None → ⊥) → ⊥) → o ≡ None
none_by None f = refl
none_by (Some a) f = absurd (f (λ e. none-some a (sym e)))

module _ (s : Problem) (taken : List Bool) (are : AreCandidates s.candidates s.history) (len : length taken ≡ length s.candidates) where
  -- the flag of a candidate
  flag_of : (i : ℕ) (p : Candidate) → slice_get s.candidates i ≡ Some p → (b : Bool) × (slice_get taken i ≡ Some b)
  flag_of i p here = (get_or taken i true, slice_get-get_or taken i true (omega (arith, slice_get_within s.candidates i p here, len)))

  -- a candidate whose flag is down is not taken
  down_free : (i : ℕ) (p : Candidate) → slice_get s.candidates i ≡ Some p → slice_get taken i ≡ Some false → IsTaken s.candidates taken p.thread p.call → ⊥
  down_free i p here down x =
      let same = are.once x.index i x.candidate p x.at here x.thread x.call in
      false_true (same_Some false true (sym down ∙ ap (slice_get taken) (sym same) ∙ x.set))
    where
      false_true : false ≡ true → ⊥
      false_true e = cc

  its_answer : (i : ℕ) (p : Candidate) (c : Called) (a : model.Answer) (t k : ℕ) → slice_get s.candidates i ≡ Some p → p.thread ≡ t → p.call ≡ k → call_at s.history t k ≡ Some c → c.answer ≡ Some a → p.answer ≡ None → ⊥
  its_answer i p c a t k here thread number at is none =
      let (d, at', kind, own) = are.begun i p here in
      let same : d ≡ c = same_Some d c (sym at' ∙ ap (λ (v : ℕ). call_at s.history v p.call) thread ∙ ap (call_at s.history t) number ∙ at) in
      none-some a (sym (ap (option_map answer_view) none) ∙ sym own ∙ ap (λ (x : Called). x.answer) same ∙ is)

  has_answer : (o : Option Answer) → (o ≡ None → ⊥) → (a : Answer) × (o ≡ Some a)
  has_answer None some = absurd (some refl)
  has_answer (Some a) some = (a, refl)

  -- NO RETURNED CALL IS MISSING

  pub whole_in : ((j : ℕ) (q : Candidate) → slice_get s.candidates j ≡ Some q → slice_get taken j ≡ Some false → q.answer ≡ None) → HasAllTaken s taken
  whole_in all t k c a at is =
      let (j, p, here, thread, number) = are.all t k c at in
      by j p here thread number (flag_of j p here).0 (flag_of j p here).1
    where
      by : (j : ℕ) (p : Candidate) → slice_get s.candidates j ≡ Some p → p.thread ≡ t → p.call ≡ k → (b : Bool) → slice_get taken j ≡ Some b → IsTaken s.candidates taken t k
      by j p here thread number true e = record { index = j; candidate = p; at = here; thread = thread; call = number; set = e }
      by j p here thread number false e = absurd (its_answer j p c a t k here thread number at is (all j p here e))

  pub whole_out : HasAllTaken s taken → (i : ℕ) (p : Candidate) → slice_get s.candidates i ≡ Some p → slice_get taken i ≡ Some false → (p.answer ≡ None → ⊥) → ⊥
  whole_out whole i p here down some =
      let (c, at, kind, own) = are.begun i p here in
      let (a, is) = has_answer p.answer some in
      down_free i p here down (whole p.thread p.call c (answer_view a) at (own ∙ ap (option_map answer_view) is))

  -- THE NEXT CALL

  pub next_in : (p : Candidate) → ((j : ℕ) (q : Candidate) (b : Bool) → slice_get s.candidates j ≡ Some q → slice_get taken j ≡ Some b → Lets s.history p q b) → MayBeNext s taken p
  next_in p lets = record {
    fresh = λ x. (lets x.index x.candidate true x.at x.set).0 (x.thread, x.call);
    behind = λ t k x before. (lets x.index x.candidate true x.at x.set).1 (told_at (λ u v. Precedes s.history p.thread p.call u v) t x.candidate.thread k x.candidate.call (sym x.thread) (sym x.call) before);
    minimal = λ t k c a at has free other before.
        let (j, q, here, thread, number) = are.all t k c at in
        by t k c a at has free other before j q here thread number (flag_of j q here).0 (flag_of j q here).1;
  }
    where
      by : (t k : ℕ) (c : Called) (a : model.Answer) → call_at s.history t k ≡ Some c → c.answer ≡ Some a → (IsTaken s.candidates taken t k → ⊥) → ¬ ((t ≡ p.thread) × (k ≡ p.call)) → Precedes s.history t k p.thread p.call
          → (j : ℕ) (q : Candidate) → slice_get s.candidates j ≡ Some q → q.thread ≡ t → q.call ≡ k → (b : Bool) → slice_get taken j ≡ Some b → ⊥
      by t k c a at has free other before j q here thread number true e = free (record { index = j; candidate = q; at = here; thread = thread; call = number; set = e })
      by t k c a at has free other before j q here thread number false e =
          lets j q false here e (λ (x, y). other (sym thread ∙ x, sym number ∙ y)) (its_answer j q c a t k here thread number at has)
          (told_at (λ u v. Precedes s.history u v p.thread p.call) t q.thread k q.call (sym thread) (sym number) before)

  pub next_out : (p : Candidate) → MayBeNext s taken p → (i : ℕ) (q : Candidate) (b : Bool) → slice_get s.candidates i ≡ Some q → slice_get taken i ≡ Some b → Lets s.history p q b
  next_out p may i q true here e = (
    λ (x, y). may.fresh (record { index = i; candidate = q; at = here; thread = x; call = y; set = e }),
    λ before. may.behind q.thread q.call (record { index = i; candidate = q; at = here; thread = refl; call = refl; set = e }) before,
  )
  next_out p may i q false here e = λ other some before.
      let (c, at, kind, own) = are.begun i q here in
      let (a, is) = has_answer q.answer some in
      may.minimal q.thread q.call c (answer_view a) at (own ∙ ap (option_map answer_view) is) (down_free i q here e) other before
