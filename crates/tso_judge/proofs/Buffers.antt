-- A store buffer has at most as many entries as its run has labels.
use Rattle.std.proofs.Common.{◌≡◌, ℕ, zero, suc, ◌+◌, ◌≤◌, List, [], ◌∷◌, ◌++◌, length, Some, slice_get, slice_set, refl, sym, ap, subst, arith}
use Rattle.std.proofs.lemmas.List.{length-append}
use Rattle.tso_compact.specs.Laws.{StepsGiveRuns, initial_of}
use Rattle.tso_flow.specs.Calls.{step_limit}
use Rattle.tso_machine.specs.Activations.{Activation}
use Rattle.tso_machine.specs.Laws.{RunsAreShort}
use Rattle.tso_machine.specs.Places.{first_memory}
use Rattle.tso_machine.specs.Programs.{program_of}
use Rattle.tso_model.proofs.Follow.{first_same}
use Rattle.tso_model.specs.Labels.{By, Idle, Kind, Label, Machine, Rule, Run, Step, Thread, call, drain, fault, fence, first_machine, lock, machine_of, read, read_locked, reg, return, thread_views, unlock, write, write_locked}
use Rattle.tso_model.specs.Programs.{CallKind, Program}
use Rattle.tso_model.specs.Reduce.{Steps}
use Rattle.tso_model.specs.States.{Called, CompactThread, State}
use Rattle.tso_model.specs.Steps.{Actor, step}
use Rattle.tso_prog.specs.declared.client.Client.{Client}
use Rattle.tso_judge.proofs.Lists.{Each, each_map, each_set, each_so}

module _ (p : Program Activation) where
  abbrev IsShort : ℕ → Thread Activation → Type 0
  IsShort n t = length t.buffer ≤ n

  abbrev AreShort : ℕ → Machine Activation → Type 0
  AreShort n m = Each (IsShort n) m.threads

  one_more : (n : ℕ) (t : Thread Activation) → IsShort n t → IsShort (suc n) t
  one_more n t h = omega (arith, h)

  put : (n : ℕ) (threads : List (Thread Activation)) (i : ℕ) (t : Thread Activation) → Each (IsShort n) threads → length t.buffer ≤ suc n → Each (IsShort (suc n)) (slice_set threads i t)
  put n threads i t h g = each_set (IsShort (suc n)) threads i t (each_so (IsShort n) (IsShort (suc n)) threads (one_more n) h) g

  longer : (b : List (ℕ × ℕ)) (e : ℕ × ℕ) (n : ℕ) → length b ≤ n → length (b ++ e ∷ []) ≤ suc n
  longer b e n h = omega (arith, length-append b (e ∷ []), h)

  shorter : (b rest : List (ℕ × ℕ)) (e : ℕ × ℕ) (n : ℕ) → b ≡ e ∷ rest → length b ≤ n → length rest ≤ suc n
  shorter b rest e n is h = let long : length b ≡ suc (length rest) = ap length is in omega (arith, long, h)

  after_rule : (n : ℕ) (m : Machine Activation) (i : ℕ) (t : Thread Activation) → AreShort n m → IsShort n t → {k : Kind} {m' : Machine Activation} → Rule p m i t k m' → AreShort (suc n) m'
  after_rule n m i t h g (call k at_rest found) = put n m.threads i _ h (one_more n t g)
  after_rule n m i t h g (reg f e here next) = put n m.threads i _ h (one_more n t g)
  after_rule n m i t h g (read f q k here next free) = put n m.threads i _ h (one_more n t g)
  after_rule n m i t h g (write f q v e here next) = put n m.threads i _ h (longer t.buffer (q, v) n g)
  after_rule n m i t h g (drain q v rest entry free) = put n m.threads i _ h (shorter t.buffer rest (q, v) n entry g)
  after_rule n m i t h g (fence f e here next empty) = put n m.threads i _ h (one_more n t g)
  after_rule n m i t h g (lock f q w k here next free empty) = put n m.threads i _ h (one_more n t g)
  after_rule n m i t h g (read_locked f q w k here next free) = put n m.threads i _ h (one_more n t g)
  after_rule n m i t h g (write_locked f q w k old here next) = put n m.threads i _ h (longer t.buffer (q, w old) n g)
  after_rule n m i t h g (unlock f q w k old here next held empty) = put n m.threads i _ h (one_more n t g)
  after_rule n m i t h g (return f a here next) = put n m.threads i _ h (one_more n t g)
  after_rule n m i t h g (fault f x here next) = put n m.threads i _ h (one_more n t g)

  after_step : (n : ℕ) (m m' : Machine Activation) (l : Label) → AreShort n m → Step p m l m' → AreShort (suc n) m'
  after_step n m m' (By i k) h x = after_rule n m i x.0 h (h i x.0 x.1) x.2

  after_run : (n : ℕ) (m m' : Machine Activation) (ls : List Label) → AreShort n m → Run p m ls m' → AreShort (n + length ls) m'
  after_run n m m' [] h x = subst (AreShort (n + 0)) (sym x) (λ i t at. let le = h i t at in omega (arith, le))
  after_run n m m' (l ∷ ls) h x = λ i t at. let le = after_run (suc n) x.0 m' ls (after_step n m x.0 l h x.1) x.2 i t at in omega (arith, le)

  at_first : (memory : List ℕ) → AreShort 0 (first_machine p memory)
  at_first memory = each_map (IsShort 0) (λ (ks : List CallKind). record { begun = 0; core = Idle; buffer = [] }) p.calls (λ n l e. omega arith)

-- a thread of a compact state has its buffer in the machine
viewed : (hs : List (List Called)) (ts : List (CompactThread Activation)) (n i : ℕ) (t : CompactThread Activation) → length ts ≤ length hs
    → Each (λ (u : Thread Activation). length u.buffer ≤ n) (thread_views hs ts) → slice_get ts i ≡ Some t → length t.buffer ≤ n
viewed hs [] n i t le h e = absurd cc
viewed [] (u ∷ ts) n i t le h e = absurd (omega (arith, le))
viewed (l ∷ hs) (u ∷ ts) n zero t le h e = let same : u ≡ t = cc in subst (λ (v : CompactThread Activation). length v.buffer ≤ n) same (h zero _ refl)
viewed (l ∷ hs) (u ∷ ts) n (suc i) t le h e = viewed hs ts n i t (omega (arith, le)) (λ k x at. h (suc k) x at) e

-- of each state that steps reach
pub buffers_are_short : (c : Client) → StepsGiveRuns c → RunsAreShort c → (actors : List Actor) (s : State Activation) → Steps (step (program_of c)) (initial_of c) actors s
    → length s.threads ≤ length s.history → (i : ℕ) (t : CompactThread Activation) → slice_get s.threads i ≡ Some t → length t.buffer ≤ step_limit c
buffers_are_short c give short actors s steps le i t at =
    let p = program_of c in
    let given = give actors s steps in
    let ls = given.0 in
    let from : Run p (first_machine p (first_memory c.arrays)) ls (machine_of s) =
    subst (λ (m : Machine Activation). Run p m ls (machine_of s)) (sym (first_same p (first_memory c.arrays))) given.1.run in
    let bound = viewed s.history s.threads (0 + length ls) i t le (after_run p 0 (first_machine p (first_memory c.arrays)) (machine_of s) ls (at_first p (first_memory c.arrays)) from) at in
    let few = short ls (machine_of s) from in
    omega (arith, bound, few)
