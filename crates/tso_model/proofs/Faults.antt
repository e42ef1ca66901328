-- A fault stops its thread for good, so it shows at the end of each run that goes on.
use Rattle.std.proofs.Common.{◌≡◌, ℕ, List, [], ◌∷◌, ◌++◌, slice_get, slice_set, refl, sym, ◌∙◌, ap, subst, Some, ◌⊎◌, inl, inr}
use Rattle.std.proofs.lemmas.Option.{same_Some}
use Rattle.std.proofs.Math.Decide.{ℕ_discrete}
use Rattle.tso_model.specs.Labels.{By, Fault, Stopped, Kind, Label, Thread, Machine, Rule, Run, Step, call, drain, fault, fence, first_machine, lock, machine_of, read, read_locked, reg, return, unlock, write, write_locked}
use Rattle.tso_model.specs.Programs.{FaultKind, Program}
use Rattle.tso_model.specs.Faults.{FaultsStop, HasFaultOf, IsFaultOf, IsStoppedAt, IsStoppedIn, StopsAreFaults, StopsAreFinal}
use Rattle.tso_model.specs.Simulation.{RunsReachEnds}
use Rattle.tso_model.specs.States.{State}
use Rattle.tso_model.proofs.Falls.{first_at_rest, first_sound, runs_end, sound_run}
use Rattle.tso_model.proofs.Follow.{runs_are_followed}
use Rattle.tso_model.proofs.Labelled.{ends_are_ends, run_append}
use Rattle.tso_model.proofs.Places.{get_set_other, get_set_same}
use Rattle.tso_model.proofs.Threads.{core_halted, threads_got}
use Rattle.tso_model.proofs.WellFormed.{free}

module _ {F : Type 0} where
  -- the threads after a label: it leaves a stopped thread stopped
  Kept : Machine F → ℕ → Thread F → Machine F → Type 0
  Kept m i t m' = (u : Thread F) × (m'.threads ≡ slice_set m.threads i u) × (t.core ≡ Stopped → u.core ≡ Stopped)

  kept : (P : Program F) (m : Machine F) (i : ℕ) (t : Thread F) → {k : Kind} {m' : Machine F} → Rule P m i t k m' → Kept m i t m'
  unfolding Kept
  kept P m i t (call k idle found) = (_, refl, λ s. cc)
  kept P m i t (reg f g running next) = (_, refl, λ s. cc)
  kept P m i t (read f p k running next free) = (_, refl, λ s. cc)
  kept P m i t (write f p v g running next) = (_, refl, λ s. cc)
  kept P m i t (drain p v rest entry free) = (_, refl, λ s. s)
  kept P m i t (fence f g running next empty) = (_, refl, λ s. cc)
  kept P m i t (lock f p w k running next free empty) = (_, refl, λ s. cc)
  kept P m i t (read_locked f p w k running next free) = (_, refl, λ s. cc)
  kept P m i t (write_locked f p w k old running next) = (_, refl, λ s. cc)
  kept P m i t (unlock f p w k old running next held empty) = (_, refl, λ s. cc)
  kept P m i t (return f a running next) = (_, refl, λ s. cc)
  kept P m i t (fault f n running next) = (_, refl, λ s. refl)

  stays_here : (m m' : Machine F) (j i : ℕ) (t : Thread F) → slice_get m.threads j ≡ Some t → Kept m j t m' → IsStoppedAt m i → Dec (j ≡ i) → IsStoppedAt m' i
  unfolding Kept
  stays_here m m' j i t at k s (yes e) =
      let Q : ℕ → Type 0 = λ x. slice_get m.threads x ≡ Some s.0 in
      let same : t ≡ s.0 = same_Some t s.0 (sym at ∙ subst Q (sym e) s.1) in
      let R : ℕ → Type 0 = λ x. slice_get m'.threads x ≡ Some k.0 in
      (k.0, subst R e (rw k.1 (get_set_same m.threads j t k.0 at)), k.2 (ap (λ (u : Thread F). u.core) same ∙ s.2))
  stays_here m m' j i t at k s (no n) = (s.0, rw k.1 (get_set_other m.threads j i k.0 n ∙ s.1), s.2)

  stays : (P : Program F) (m m' : Machine F) (l : Label) (i : ℕ) → Step P m l m' → IsStoppedAt m i → IsStoppedAt m' i
  stays P m m' (By j k) i x s = stays_here m m' j i x.0 x.1 (kept P m j x.0 x.2) s (ℕ_discrete j i)

  pub stays_all : (P : Program F) (m m' : Machine F) (ls : List Label) (i : ℕ) → Run P m ls m' → IsStoppedAt m i → IsStoppedAt m' i
  stays_all P m m' [] i r s = subst (λ (x : Machine F). IsStoppedAt x i) (sym r) s
  stays_all P m m' (l ∷ ls) i r s = stays_all P r.0 m' ls i r.2 (stays P m r.0 l i r.1 s)

  stops : (P : Program F) (m m' : Machine F) (i : ℕ) (n : FaultKind) (t : Thread F) → slice_get m.threads i ≡ Some t → {k : Kind} → k ≡ Fault n → Rule P m i t k m' → IsStoppedAt m' i
  stops P m m' i n t at e (call k idle found) = cc
  stops P m m' i n t at e (reg f g running next) = cc
  stops P m m' i n t at e (read f p k running next free) = cc
  stops P m m' i n t at e (write f p v g running next) = cc
  stops P m m' i n t at e (drain p v rest entry free) = cc
  stops P m m' i n t at e (fence f g running next empty) = cc
  stops P m m' i n t at e (lock f p w k running next free empty) = cc
  stops P m m' i n t at e (read_locked f p w k running next free) = cc
  stops P m m' i n t at e (write_locked f p w k old running next) = cc
  stops P m m' i n t at e (unlock f p w k old running next held empty) = cc
  stops P m m' i n t at e (return f a running next) = cc
  stops P m m' i n t at e (fault f w running next) = (_, get_set_same m.threads i t _ at, refl)

  fault_stops : (P : Program F) (m m' : Machine F) (l : Label) (i : ℕ) → Step P m l m' → IsFaultOf l i → IsStoppedAt m' i
  fault_stops P m m' (By j (Fault n)) i x e = subst (IsStoppedAt m') e (stops P m m' j n x.0 x.1 refl x.2)
  fault_stops P m m' (By j _) i x e = absurd e

  pub faults_show : (P : Program F) (m m' : Machine F) (ls : List Label) (i : ℕ) → Run P m ls m' → HasFaultOf ls i → IsStoppedAt m' i
  faults_show P m m' [] i r h = absurd h
  faults_show P m m' (l ∷ ls) i r (inl e) = stays_all P r.0 m' ls i r.2 (fault_stops P m r.0 l i r.1 e)
  faults_show P m m' (l ∷ ls) i r (inr h) = faults_show P r.0 m' ls i r.2 h

  stopped_state : (c : State F) (i : ℕ) → IsStoppedAt (machine_of c) i → IsStoppedIn c i
  stopped_state c i s = let g = threads_got c.history c.threads i s.0 s.1 in (g.1, g.3, core_halted g.1.core (ap (λ (u : Thread F). u.core) g.4 ∙ s.2))

  -- the thread after a label, which is stopped only where it was so or the label is its fault
  Halts : Machine F → ℕ → Kind → Thread F → Machine F → Type 0
  Halts m j k t m' = (u : Thread F) × (m'.threads ≡ slice_set m.threads j u) × (u.core ≡ Stopped → (t.core ≡ Stopped) ⊎ IsFaultOf (By j k) j)

  halts : (P : Program F) (m : Machine F) (j : ℕ) (t : Thread F) → {k : Kind} {m' : Machine F} → Rule P m j t k m' → Halts m j k t m'
  unfolding Halts
  halts P m j t (call k idle found) = (_, refl, λ s. cc)
  halts P m j t (reg f g running next) = (_, refl, λ s. cc)
  halts P m j t (read f p k running next free) = (_, refl, λ s. cc)
  halts P m j t (write f p v g running next) = (_, refl, λ s. cc)
  halts P m j t (drain p v rest entry free) = (_, refl, λ s. inl s)
  halts P m j t (fence f g running next empty) = (_, refl, λ s. cc)
  halts P m j t (lock f p w k running next free empty) = (_, refl, λ s. cc)
  halts P m j t (read_locked f p w k running next free) = (_, refl, λ s. cc)
  halts P m j t (write_locked f p w k old running next) = (_, refl, λ s. cc)
  halts P m j t (unlock f p w k old running next held empty) = (_, refl, λ s. cc)
  halts P m j t (return f a running next) = (_, refl, λ s. cc)
  halts P m j t (fault f n running next) = (_, refl, λ s. inr refl)

  halted_before : (m m' : Machine F) (j i : ℕ) (k : Kind) (t v : Thread F) → slice_get m.threads j ≡ Some t → Halts m j k t m' → slice_get m'.threads i ≡ Some v → v.core ≡ Stopped → Dec (j ≡ i)
      → IsStoppedAt m i ⊎ IsFaultOf (By j k) i
  unfolding Halts
  halted_before m m' j i k t v at (u, threads, why) here is (yes e) =
      let there : slice_get m'.threads j ≡ Some u = rw threads (get_set_same m.threads j t u at) in
      let v_at : slice_get m'.threads j ≡ Some v = subst (λ n. slice_get m'.threads n ≡ Some v) (sym e) here in
      let same : u ≡ v = same_Some u v (sym there ∙ v_at) in
      elim (why (ap (λ (x : Thread F). x.core) same ∙ is)) [
        | inl was ↦ inl (subst (λ n. (w : Thread F) × (slice_get m.threads n ≡ Some w) × (w.core ≡ Stopped)) e (t, at, was))
        | inr faulted ↦ inr (subst (IsFaultOf (By j k)) e faulted)
      ]
  halted_before m m' j i k t v at (u, threads, why) here is (no n) =
      inl (v, sym (get_set_other m.threads j i u n) ∙ (rw threads at here), is)

  halted_run : (P : Program F) (m m' : Machine F) (ls : List Label) (i : ℕ) (v : Thread F) → Run P m ls m' → slice_get m'.threads i ≡ Some v → v.core ≡ Stopped → IsStoppedAt m i ⊎ HasFaultOf ls i
  halted_run P m m' [] i v r at is = inl (v, subst (λ (x : Machine F). slice_get x.threads i ≡ Some v) r at, is)
  halted_run P m m' (By j k ∷ ls) i v r at is = elim (halted_run P r.0 m' ls i v r.2 at is) [
    | inl s ↦ elim (halted_before m r.0 j i k r.1.0 s.0 r.1.1 (halts P m j r.1.0 r.1.2) s.1 s.2 (ℕ_discrete j i)) [ inl before ↦ inl before | inr faulted ↦ inr (inl faulted) ]
    | inr f ↦ inr (inr f)
  ]

  pub stops_are_faults : StopsAreFaults F
  stops_are_faults P memory ls m i t r at is = elim (halted_run P (first_machine P memory) m ls i t r at is) [
    | inl s ↦ let q = first_at_rest P.calls i s.0 s.1 in let h = s.2 in absurd (cc)
    | inr f ↦ f
  ]

  pub runs_reach_ends : RunsReachEnds F
  runs_reach_ends P size sound rank ranked memory ls m r =
      let start = first_sound P sound memory in
      let e = runs_end P size sound rank ranked m (sound_run P size sound rank ranked (first_machine P memory) m ls start r) in
      let all = run_append P (first_machine P memory) m e.1 ls e.0 r e.2 in
      let x = runs_are_followed F P memory (ls ++ e.0) e.1 all in
      let y = ends_are_ends P e.1 x.state x.belongs e.3 in
      record {
        more = e.0;
        actors = x.actors;
        state = x.state;
        steps = x.steps;
        over = y.1;
        run = subst (λ (n : Machine F). Run P (first_machine P memory) (ls ++ e.0) n) y.0 all;
        same = x.same;
        faults = λ i h. stopped_state x.state i (subst (λ (n : Machine F). IsStoppedAt n i) y.0 (stays_all P m e.1 e.0 i e.2 (faults_show P (first_machine P memory) m ls i r h)));
      }

  pub stops_are_final : StopsAreFinal F
  stops_are_final P m m' ls i run s = stays_all P m m' ls i run s

  pub faults_stop : FaultsStop F
  faults_stop P m m' ls i run h = faults_show P m m' ls i run h
