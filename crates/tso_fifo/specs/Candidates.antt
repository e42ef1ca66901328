-- The calls that an order may have.
use Rattle.std.specs.Prelude.{◌≡◌, ℕ, ◌+◌, List, [], ◌∷◌, ◌++◌, Some, option_map, slice_get}
use Rattle.tso_fifo.specs.declared.candidate.Candidate.{Candidate}
use Rattle.tso_hist.specs.declared.call.Call.{Call}
use Rattle.tso_model.specs.Linear.{call_at}
use Rattle.tso_model.specs.States.{Called}
use Rattle.tso_prog.specs.Views.{answer_view, call_view}

-- a thread's calls, the first of them with number k
abbrev pub thread_candidates : ℕ → ℕ → List Call → List Candidate
thread_candidates t k [] = []
thread_candidates t k (c ∷ cs) = record { thread = t; call = k; kind = c.kind; answer = c.answer } ∷ thread_candidates t (k + 1) cs

-- those of thread t and of the threads that follow it
abbrev pub all_candidates : ℕ → List (List Call) → List Candidate
all_candidates t [] = []
all_candidates t (cs ∷ h) = thread_candidates t 0 cs ++ all_candidates (t + 1) h

-- all begun calls of the history, each once
pub record AreCandidates (cs : List Candidate) (h : List (List Called)) : Type 0 where
  pub begun : (i : ℕ) (p : Candidate) → slice_get cs i ≡ Some p → (c : Called) × (call_at h p.thread p.call ≡ Some c) × (c.kind ≡ call_view p.kind) × (c.answer ≡ option_map answer_view p.answer)
  pub all : (t k : ℕ) (c : Called) → call_at h t k ≡ Some c → (i : ℕ) × (p : Candidate) × (slice_get cs i ≡ Some p) × (p.thread ≡ t) × (p.call ≡ k)
  pub once : (i j : ℕ) (p q : Candidate) → slice_get cs i ≡ Some p → slice_get cs j ≡ Some q → p.thread ≡ q.thread → p.call ≡ q.call → i ≡ j
