-- The call that a thread may begin next, by the machine and by the compact state, is the same.
use Rattle.std.proofs.Common.{◌≡◌, ℕ, zero, suc, ◌==◌, if◌then◌else◌, Bool, true, false, List, [], ◌∷◌, length, slice_get, slice_index_or, refl, sym, ◌∙◌, ap, subst, arith, Option, Some, None}
use Rattle.std.proofs.lemmas.Option.{none-some}
use Rattle.std.proofs.Math.Decide.{ℕ_discrete}
use Rattle.tso_model.specs.Labels.{Running, Thread, Machine, Stage, core_of, is_idle, is_over_in, thread_view, next_call_in, thread_views}
use Rattle.tso_model.specs.Programs.{CallKind, Program, calls_of}
use Rattle.tso_model.specs.Prologue.{call_if, is_resting, is_over, is_thread_over, may_begin, next_call}
use Rattle.tso_model.specs.Relation.{Fits, Free, Open, Phase, in_phase, inside, part_buffer, part_stage}
use Rattle.tso_model.specs.States.{Called, CompactCore, Resting, Executing, State, Halted, CompactThread, begun_by}
use Rattle.tso_model.proofs.Places.{get_set_other, get_set_same}
use Rattle.tso_model.proofs.Threads.{threads_get}

-- a call that may begin is the thread's next
pub call_if_some : (b : Bool) (o : Option CallKind) (k : CallKind) → call_if b o ≡ Some k → o ≡ Some k
call_if_some true o k e = e
call_if_some false o k e = absurd (none-some k e)

pub may_same : (o : Option ℕ) (i : ℕ) (f g : ℕ → Bool) → ((j : ℕ) → f j ≡ g j) → may_begin o i f ≡ may_begin o i g
may_same None i f g h = refl
may_same (Some j) i f g h = ap (λ b. if i == j then true else b) (h j)

module _ {F : Type 0} (P : Program F) where
  pub next_in_calls : (m : Machine F) (i n : ℕ) (k : CallKind) → next_call_in P m i n ≡ Some k → slice_get (calls_of P i) n ≡ Some k
  next_in_calls m i n k e = call_if_some _ _ k e

  rest_is_idle : (o : CompactCore F) → is_idle (core_of o) ≡ is_resting o
  rest_is_idle Resting = refl
  rest_is_idle (Executing f) = refl
  rest_is_idle Halted = refl

  thread_over : (i : ℕ) (h : List Called) (t : CompactThread F) → is_over_in P i (Some (thread_view h t)) ≡ is_thread_over P i (length h) (Some t)
  thread_over i h t = ap (λ b. is_over b (slice_get (calls_of P i) (length h)) t.buffer) (rest_is_idle t.core)

  threads_over : (hs : List (List Called)) (ts : List (CompactThread F)) → length hs ≡ length ts → (i n : ℕ)
      → is_over_in P i (slice_get (thread_views hs ts) n) ≡ is_thread_over P i (length (slice_index_or hs n [])) (slice_get ts n)
  threads_over [] [] e i n = refl
  threads_over [] (t ∷ ts) e i n = absurd (omega arith)
  threads_over (h ∷ hs) [] e i n = absurd (omega arith)
  threads_over (h ∷ hs) (t ∷ ts) e i zero = thread_over i h t
  threads_over (h ∷ hs) (t ∷ ts) e i (suc n) = threads_over hs ts (omega (arith, e)) i n

  not_over_in : (i : ℕ) (t : Thread F) (f : F) (st : Stage) → t.core ≡ Running f st → is_over_in P i (Some t) ≡ false
  not_over_in i t f st e = rw e refl

  not_over : (i n : ℕ) (t : CompactThread F) (f : F) → t.core ≡ Executing f → is_thread_over P i n (Some t) ≡ false
  not_over i n t f e = rw e refl

  over_same : (c : State F) (phase : Phase F) → Fits P c phase → (j : ℕ) → is_over_in P j (slice_get (in_phase c phase).threads j) ≡ is_thread_over P j (begun_by c j) (slice_get c.threads j)
  over_same c Free fits j = threads_over c.history c.threads fits j j
  over_same c (Open s) o j = go (ℕ_discrete s.holder j)
    where
      v : Thread F
      v = record { begun = length s.calls; core = Running s.frame (part_stage s.part (slice_index_or c.memory s.place 0)); buffer = part_buffer s.part s.place (s.new (slice_index_or c.memory s.place 0)) }

      there : slice_get (thread_views c.history c.threads) s.holder ≡ Some (thread_view s.calls s.thread)
      there = threads_get c.history c.threads s.holder s.calls s.thread o.begun o.at

      go : Dec (s.holder ≡ j) → is_over_in P j (slice_get (inside c s).threads j) ≡ is_thread_over P j (begun_by c j) (slice_get c.threads j)
      go (yes e) =
          let Q : ℕ → Type 0 = λ i. is_over_in P i (slice_get (inside c s).threads i) ≡ is_thread_over P i (begun_by c i) (slice_get c.threads i) in
          let a = ap (is_over_in P s.holder) (get_set_same (thread_views c.history c.threads) s.holder (thread_view s.calls s.thread) _ there) in
          let b = ap (is_thread_over P s.holder (begun_by c s.holder)) o.at ∙ not_over s.holder (begun_by c s.holder) s.thread s.frame o.running in
          subst Q e (a ∙ sym b)
      go (no n) = ap (is_over_in P j) (get_set_other (thread_views c.history c.threads) s.holder j _ n) ∙ threads_over c.history c.threads o.shaped j j

  pub next_same : (c : State F) (phase : Phase F) (j n : ℕ) → Fits P c phase → begun_by c j ≡ n → next_call_in P (in_phase c phase) j n ≡ next_call P c j
  next_same c phase j n fits e =
      ap (λ b. call_if b (slice_get (calls_of P j) n)) (may_same P.prologue j _ _ (over_same c phase fits)) ∙
      ap (λ k. call_if (may_begin P.prologue j (λ i. is_thread_over P i (begun_by c i) (slice_get c.threads i))) (slice_get (calls_of P j) k)) (sym e)
