-- Which states have parts that fit a client.
use Rattle.std.proofs.Common.{◌≡◌, ◌∙◌, ◌⊎◌, inl, inr, ℕ, zero, suc, ◌+◌, ◌<◌, ◌≤◌, ◌^◌, ◌==◌, ◌&&◌, ◌||◌, Bool, true, false, IsTrue, ◌↔◌, List, [], ◌∷◌, ◌++◌, length, take, Some, None, refl, ap, sym, subst, arith, slice_get, ne_eqb}
use Rattle.std.proofs.lemmas.Bool.{and_from, and_parts}
use Rattle.std.proofs.lemmas.List.{length_push, take_more}
use Rattle.std.proofs.lemmas.Option.{get_or_from_slice_get, same_Some, slice_get_cases, slice_get_within}
use Rattle.tso_hist.specs.declared.call.Call.{Call}
use Rattle.tso_prog.specs.declared.client.Client.{Client}
use Rattle.tso_state.proofs.ClientLemmas.{few_threads}
use Rattle.tso_state.proofs.FitLemmas.{stage_fits}
use Rattle.tso_state.specs.Fitting.{FitsAt, PartsFit, ThreadsFit}
use Rattle.tso_state.specs.Stages.{ThreadAtStage, stage_of}
use Rattle.tso_state.specs.WellFormed.{thread_total}
use Rattle.tso_state.specs.declared.stage.Stage.{Stage}
use Rattle.tso_state.specs.declared.state.State.{State}
use Rattle.tso_state.specs.declared.state.Thread.{Thread}
use Rattle.tso_keys.specs.Forms.{AreAnswers, AreForms, IsHistoryForm, IsMemoryForm, IsThreadForm, allows, allows_if, form_of, forms_by, history_at_stages, row_at_stages, stage_at}
use Rattle.tso_keys.specs.Keys.{AreKept, IsKept, state_at, states_at}
use Rattle.tso_keys.specs.Numbers.{AreNumbersOf}
use Rattle.tso_keys.specs.declared.forms.HistoryForm.{HistoryForm}
use Rattle.tso_keys.specs.declared.forms.ThreadForm.{ThreadForm}
use Rattle.tso_keys.specs.declared.key.Key.{Key}
use Rattle.tso_keys.specs.declared.parts.Parts.{Parts}
use Rattle.tso_keys.proofs.Lists.{at_end}

-- ---- one more answer

module _ {X Y : Type 0} (Is : X → Y → Type 0) where
  one_more : (xs : List X) (ys : List Y) (x : X) (y : Y) → AreAnswers Is xs ys → Is x y → (n : ℕ) (a : X) (b : Y) → (slice_get xs n ≡ Some a) ⊎ ((n ≡ length xs) × (a ≡ x)) → (slice_get ys n ≡ Some b) ⊎ ((n ≡ length ys) × (b ≡ y)) → Is a b
  one_more xs ys x y are is n a b (inl at) (inl there) = are.each n a b at there
  one_more xs ys x y are is n a b (inl at) (inr last) = let lt = slice_get_within xs n a at in absurd (let k = last.0 in omega (arith, lt, k, are.count))
  one_more xs ys x y are is n a b (inr last) (inl there) = let lt = slice_get_within ys n b there in absurd (let k = last.0 in omega (arith, lt, k, are.count))
  one_more xs ys x y are is n a b (inr last) (inr end) = subst (λ (u : X). Is u b) (sym last.1) (subst (λ (v : Y). Is x v) (sym end.1) is)

  pub next_answered : (xs : List X) (n : ℕ) (ys : List Y) (x : X) (y : Y) → AreAnswers Is (take n xs) ys → slice_get xs n ≡ Some x → Is x y → AreAnswers Is (take (n + 1) xs) (ys ++ y ∷ [])
  next_answered xs n ys x y are at is =
      let next : take (n + 1) xs ≡ take n xs ++ x ∷ [] = take_more xs n x (slice_get_within xs n x at) ∙ ap (λ g. take n xs ++ g ∷ []) (get_or_from_slice_get xs n x x at) in
      subst (λ (l : List X). AreAnswers Is l (ys ++ y ∷ [])) (sym next) (record {
        count = length_push ys y ∙ ap (λ k. k + 1) are.count ∙ sym (length_push (take n xs) x);
        each = λ m a b e f. one_more (take n xs) ys x y are is m a b (at_end (take n xs) x m a e) (at_end ys y m b f);
      })

  -- the answer for one of them
  pub record AnswerAt (ys : List Y) (n : ℕ) (x : X) : Type 0 where
    pub answer : Y
    pub at : slice_get ys n ≡ Some answer
    pub is : Is x answer

  pub answer_at : (xs : List X) (ys : List Y) (n : ℕ) (x : X) → AreAnswers Is xs ys → slice_get xs n ≡ Some x → AnswerAt ys n x
  answer_at xs ys n x are at = elim (slice_get_cases ys n).1 [
    | inl (y, lt, there, get) ↦ record { answer = y; at = there; is = are.each n x y at there }
    | inr (past, none) ↦ let lt = slice_get_within xs n x at in absurd (omega (arith, lt, past, are.count))
  ]

-- ---- rows of threads

and_both : (a b : Bool) {C D : Type 0} → IsTrue a ↔ C → IsTrue b ↔ D → IsTrue (a && b) ↔ (C × D)
and_both a b one two = (λ h. let (p, q) = and_parts a b h in (one.0 p, two.0 q), λ p. and_from a b (one.1 p.0) (two.1 p.1))

-- each thread may be at the stage of its last call
AllAtStages : Client → List Thread → List Stage → Type 0
AllAtStages c [] ss = Unit {0}
AllAtStages c (x ∷ xs) [] = ⊥
AllAtStages c (x ∷ xs) (s ∷ ss) = ThreadAtStage c x s × AllAtStages c xs ss

module _ (c : Client) (pool : List Thread) (forms : List ThreadForm) (are : AreAnswers (IsThreadForm c) pool forms) (small : length pool < 2 ^ 32) where
  one_at_stage : (n : ℕ) (x : Thread) (s : Stage) → slice_get pool n ≡ Some x → IsTrue (n == 4294967295 || allows_if (slice_get forms n) s) ↔ ThreadAtStage c x s
  one_at_stage n x s at =
      let lt = slice_get_within pool n x at in
      let other : (n == 4294967295) ≡ false = ne_eqb n 4294967295 (λ e. omega (arith, e, lt, small)) in
      let form = answer_at (IsThreadForm c) pool forms n x are at in
      let e : (n == 4294967295 || allows_if (slice_get forms n) s) ≡ allows form.answer s = ap (λ b. b || allows_if (slice_get forms n) s) other ∙ ap (λ o. allows_if o s) form.at in
      subst (λ (b : Bool). IsTrue b ↔ ThreadAtStage c x s) (sym e) (form.is s)

  row_fits : (ns : List ℕ) (xs : List Thread) (ss : List Stage) → AreNumbersOf pool ns xs → length ss ≡ length ns → IsTrue (row_at_stages forms ns ss) ↔ AllAtStages c xs ss
  unfolding AllAtStages
  row_fits [] [] ss numbers long = (λ h. tt, λ h. refl)
  row_fits [] (x ∷ xs) ss numbers long = absurd numbers
  row_fits (n ∷ ns) xs [] numbers long = absurd (omega (arith, long))
  row_fits (n ∷ ns) [] (s ∷ ss) numbers long =
      let (one, two) = row_fits ns [] ss numbers.1 (omega (arith, long)) in
      let none : (n == 4294967295 || allows_if (slice_get forms n) s) ≡ true = ap (λ m. m == 4294967295 || allows_if (slice_get forms n) s) numbers.0 in
      (λ h. tt, λ h. and_from (n == 4294967295 || allows_if (slice_get forms n) s) (row_at_stages forms ns ss) none (two tt))
  row_fits (n ∷ ns) (x ∷ xs) (s ∷ ss) numbers long =
      and_both (n == 4294967295 || allows_if (slice_get forms n) s) (row_at_stages forms ns ss) (one_at_stage n x s numbers.0) (row_fits ns xs ss numbers.1 (omega (arith, long)))

is_at_stage : (c : Client) (xs : List Thread) (ss : List Stage) (i : ℕ) (x : Thread) (s : Stage) → AllAtStages c xs ss → slice_get xs i ≡ Some x → slice_get ss i ≡ Some s → ThreadAtStage c x s
unfolding AllAtStages
is_at_stage c [] ss i x s all at there = absurd (let h : None ≡ Some x = at in cc)
is_at_stage c (y ∷ xs) [] i x s all at there = absurd all
is_at_stage c (y ∷ xs) (r ∷ ss) zero x s all at there = subst (λ (t : Thread). ThreadAtStage c t s) (same_Some y x at) (subst (λ (u : Stage). ThreadAtStage c y u) (same_Some r s there) all.0)
is_at_stage c (y ∷ xs) (r ∷ ss) (suc i) x s all at there = is_at_stage c xs ss i x s all.1 at there

all_at_stages : (c : Client) (xs : List Thread) (ss : List Stage) → length xs ≤ length ss → ((i : ℕ) (x : Thread) (s : Stage) → slice_get xs i ≡ Some x → slice_get ss i ≡ Some s → ThreadAtStage c x s) → AllAtStages c xs ss
unfolding AllAtStages
all_at_stages c [] ss long each = tt
all_at_stages c (x ∷ xs) [] long each = absurd (omega (arith, long))
all_at_stages c (x ∷ xs) (s ∷ ss) long each = (each 0 x s refl refl, all_at_stages c xs ss (omega (arith, long)) (λ i y r at there. each (suc i) y r at there))

-- ---- states

abbrev stages : List (List Call) → List Stage
stages h = stage_at h 0 ∷ stage_at h 1 ∷ stage_at h 2 ∷ stage_at h 3 ∷ stage_at h 4 ∷ []

stage_there : (h : List (List Call)) (i : ℕ) → i < 5 → slice_get (stages h) i ≡ Some (stage_at h i)
stage_there h zero lt = refl
stage_there h (suc zero) lt = refl
stage_there h (suc (suc zero)) lt = refl
stage_there h (suc (suc (suc zero))) lt = refl
stage_there h (suc (suc (suc (suc zero)))) lt = refl
stage_there h (suc (suc (suc (suc (suc i))))) lt = absurd (omega (arith, lt))

module _ (c : Client) (s : State) (threads : length s.threads ≡ thread_total c) (lists : length s.history ≡ thread_total c) (few : thread_total c ≤ 5) where
  fits_one : (i : ℕ) (t : Thread) (calls : List Call) → slice_get s.history i ≡ Some calls → ThreadAtStage c t (stage_at s.history i) ↔ FitsAt c (Some t) (Some calls)
  fits_one i t calls at = subst (λ (l : List Call). ThreadAtStage c t (stage_of l) ↔ FitsAt c (Some t) (Some calls)) (sym (get_or_from_slice_get s.history i calls [] at)) (stage_fits c t calls)

  all_fit : AllAtStages c s.threads (stages s.history) → ThreadsFit c s
  all_fit all i lt = elim (slice_get_cases s.threads i).1 [
    | inl (t, below, here, get) ↦ elim (slice_get_cases s.history i).1 [
      | inl (calls, under, there, got) ↦
          let fits = (fits_one i t calls there).0 (is_at_stage c s.threads (stages s.history) i t (stage_at s.history i) all here (stage_there s.history i (omega (arith, lt, few)))) in
          subst (λ o. FitsAt c o (slice_get s.history i)) (sym here) (subst (λ o. FitsAt c (Some t) o) (sym there) fits)
      | inr (past, none) ↦ absurd (omega (arith, past, lt, lists))
    ]
    | inr (past, none) ↦ absurd (omega (arith, past, lt, threads))
  ]

  fit_all : ThreadsFit c s → AllAtStages c s.threads (stages s.history)
  fit_all fit = all_at_stages c s.threads (stages s.history) (omega (arith, threads, few)) (λ i t r at there.
      let lt = slice_get_within s.threads i t at in
      let below : i < thread_total c = omega (arith, lt, threads) in
      let same : stage_at s.history i ≡ r = same_Some (stage_at s.history i) r (sym (stage_there s.history i (omega (arith, below, few))) ∙ there) in
      subst (λ (u : Stage). ThreadAtStage c t u) same (elim (slice_get_cases s.history i).1 [
        | inl (calls, under, here, got) ↦ (fits_one i t calls here).1 (subst (λ o. FitsAt c (Some t) o) here (subst (λ o. FitsAt c o (slice_get s.history i)) at (fit i below)))
        | inr (past, none) ↦ absurd (omega (arith, past, below, lists))
      ]))

module _ (c : Client) (p : Parts) (memories : List Bool) (histories : List HistoryForm) (threads : List ThreadForm) (small : length p.threads < 2 ^ 32) (one : AreAnswers (IsMemoryForm c) p.memories memories) (two : AreAnswers (IsHistoryForm c) p.histories histories) (three : AreAnswers (IsThreadForm c) p.threads threads) where
  key_formed : (k : Key) → IsKept c p k → IsTrue (form_of memories histories threads k) ↔ PartsFit c (state_at p k)
  key_formed k kept =
      let s = state_at p k in
      let memory = answer_at (IsMemoryForm c) p.memories memories k.memory s.memory one kept.key.memory in
      let history = answer_at (IsHistoryForm c) p.histories histories k.history s.history two kept.key.history in
      let e : form_of memories histories threads k ≡ memory.answer && (history.answer.fits && row_at_stages threads k.threads (stages s.history)) =
      (λ i. get_or_from_slice_get memories k.memory memory.answer false memory.at i && history_at_stages threads k.threads (history.at i))
      ∙ ap (λ l. memory.answer && (history.answer.fits && row_at_stages threads k.threads l)) history.is.stages in
      let row = row_fits c p.threads threads three small k.threads s.threads (stages s.history) kept.key.threads (sym kept.key.wide) in
      let all = and_both memory.answer (history.answer.fits && row_at_stages threads k.threads (stages s.history)) memory.is (and_both history.answer.fits (row_at_stages threads k.threads (stages s.history)) history.is.fits row) in
      subst (λ (b : Bool). IsTrue b ↔ PartsFit c s) (sym e) (
        λ h. let (words, (calls, rows)) = all.0 h in record { lengths = record { memory = words; threads = kept.fits.threads; history = kept.fits.lists }; history = calls; threads = all_fit c s kept.fits.threads kept.fits.lists (few_threads c) rows },
        λ f. all.1 (f.lengths.memory, (f.history, fit_all c s kept.fits.threads kept.fits.lists (few_threads c) f.threads)),
      )

  -- what is known of parts is known of states
  pub formed : (ks : List Key) → AreKept c p ks → AreForms c (states_at p ks) (forms_by memories histories threads ks)
  formed [] kept n s at = absurd (let k : None ≡ Some s = at in cc)
  formed (k ∷ ks) kept zero s at =
      let same : state_at p k ≡ s = cc in
      subst (λ (t : State). IsTrue (form_of memories histories threads k) ↔ PartsFit c t) same (key_formed k kept.0)
  formed (k ∷ ks) kept (suc n) s at = formed ks kept.1 n s at
