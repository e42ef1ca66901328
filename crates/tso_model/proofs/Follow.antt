-- Each run of the label machine is followed by compact steps.
use Rattle.std.proofs.Common.{◌≡◌, ℕ, List, [], ◌∷◌, ◌++◌, map, slice_get, refl, sym, ◌∙◌, ap, subst, Some, None}
use Rattle.std.proofs.lemmas.Option.{same_Some}
use Rattle.std.proofs.lemmas.List.{length-map}
use Rattle.std.proofs.Math.Decide.{ℕ_discrete}
use Rattle.tso_model.specs.Labels.{Idle, By, Kind, Label, Thread, Machine, Rule, Run, Step, after_labels, first_machine, machine_of, thread_view, thread_views}
use Rattle.tso_model.specs.Programs.{CallKind, Program}
use Rattle.tso_model.specs.Relation.{Belongs, Fits, Free, IsOpen, IsShaped, Open, Phase, Section, in_phase, inside}
use Rattle.tso_model.specs.Simulation.{Followed, RunsAreFollowed}
use Rattle.tso_model.specs.States.{Resting, State, first_state}
use Rattle.tso_model.specs.Steps.{step}
use Rattle.tso_model.proofs.Held.{of_holder, thread_in}
use Rattle.tso_model.proofs.Local.{IsHolder, Matched, local}
use Rattle.tso_model.proofs.Places.{get_set_other, get_set_same}
use Rattle.tso_model.proofs.Reduce.{steps_append}
use Rattle.tso_model.proofs.Threads.{threads_get, threads_got}

module _ {F : Type 0} where
  -- a label of a thread whose machine part is that of the compact state
  outside : (P : Program F) (c : State F) (phase : Phase F) (j : ℕ) (t : Thread F) (k : Kind) (m' : Machine F)
      → Fits P c phase → (IsHolder phase j → ⊥) → slice_get (thread_views c.history c.threads) j ≡ Some t → Rule P (in_phase c phase) j t k m' → Matched P c (By j k) m'
  outside P c phase j t k m' fits n at r =
      let g = threads_got c.history c.threads j t at in
      let moved : Rule P (in_phase c phase) j (thread_view g.0 g.1) k m' = rw g.4 r in
      local P c phase j g.1 g.0 fits n g.2 g.3 moved

  holding : (P : Program F) (c : State F) (s : Section F) (j : ℕ) (t : Thread F) (k : Kind) (m' : Machine F)
      → IsOpen P c s → slice_get (inside c s).threads j ≡ Some t → Rule P (inside c s) j t k m' → Dec (s.holder ≡ j) → Matched P c (By j k) m'
  holding P c s j t k m' o at r (yes e) =
      let here : slice_get (inside c s).threads s.holder ≡ Some (thread_in c s) = get_set_same (thread_views c.history c.threads) s.holder (thread_view s.calls s.thread) (thread_in c s) (threads_get c.history c.threads s.holder s.calls s.thread o.begun o.at) in
      let at' : slice_get (inside c s).threads s.holder ≡ Some t = let P0 : ℕ → Type 0 = λ i. slice_get (inside c s).threads i ≡ Some t in subst P0 (sym e) at in
      let same : t ≡ thread_in c s = same_Some t (thread_in c s) (sym at' ∙ here) in
      let P1 : ℕ → Type 0 = λ i. Rule P (inside c s) i t k m' in
      let r1 : Rule P (inside c s) s.holder t k m' = subst P1 (sym e) r in
      let P2 : Thread F → Type 0 = λ u. Rule P (inside c s) s.holder u k m' in
      let r2 : Rule P (inside c s) s.holder (thread_in c s) k m' = subst P2 same r1 in
      let P3 : ℕ → Type 0 = λ i. Matched P c (By i k) m' in
      subst P3 e (of_holder P c s o r2)
  holding P c s j t k m' o at r (no n) =
      outside P c (Open s) j t k m' o n (sym (get_set_other (thread_views c.history c.threads) s.holder j _ n) ∙ at) r

  pub one : (P : Program F) (c : State F) (phase : Phase F) (l : Label) (m' : Machine F) → Fits P c phase → Step P (in_phase c phase) l m' → Matched P c l m'
  one P c Free (By j k) m' fits x = outside P c Free j x.0 k m' fits (λ e. e) x.1 x.2
  one P c (Open s) (By j k) m' fits x = holding P c s j x.0 k m' fits x.1 x.2 (ℕ_discrete s.holder j)

  pub follow : (P : Program F) (c : State F) (ls : List Label) (m m' : Machine F) → Belongs P m c → Run P m ls m' → Followed P c ls m'
  follow P c [] m m' b r =
      record { actors = []; state = c; steps = refl; belongs = (b.0, b.1, r ∙ b.2); same = refl }
  follow P c (l ∷ ls) m m' b r =
      let Q : Machine F → Type 0 = λ n. Step P n l r.0 in
      let x = one P c b.0 l r.0 b.1 (subst Q b.2 r.1) in
      let y = follow P x.state ls r.0 m' (x.phase, x.fits, x.machine) r.2 in
      record {
        actors = x.actors ++ y.actors;
        state = y.state;
        steps = steps_append (step P) x.actors y.actors c x.state y.state x.steps y.steps;
        belongs = y.belongs;
        same = y.same ∙ ap (λ h. after_labels h ls) x.same;
      }

  first_threads : (ks : List (List CallKind)) → ◌≡◌ {A = List (Thread F)} (map (λ xs. record { begun = 0; core = Idle; buffer = [] }) ks) (thread_views (map (λ xs. []) ks) (map (λ xs. record { core = Resting; buffer = [] }) ks))
  first_threads [] = refl
  first_threads (k ∷ ks) = rw (first_threads ks) refl

pub first_same : {F : Type 0} (P : Program F) (memory : List ℕ) → first_machine P memory ≡ machine_of (first_state P memory)
first_same P memory = ap (λ ts. record { memory = memory; lock = None; threads = ts }) (first_threads P.calls)

pub first_shaped : {F : Type 0} (P : Program F) (memory : List ℕ) → IsShaped (first_state P memory)
first_shaped P memory = length-map P.calls (λ xs. []) ∙ sym (length-map P.calls (λ xs. record { core = Resting; buffer = [] }))

pub runs_are_followed : (F : Type 0) → RunsAreFollowed F
runs_are_followed F P memory ls m r = follow P (first_state P memory) ls (first_machine P memory) m (Free, first_shaped P memory, first_same P memory) r
