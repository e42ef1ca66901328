-- Each read and drain of a run is an access of a compact step, now or later.
use Rattle.std.proofs.Common.{◌≡◌, ℕ, List, [], ◌∷◌, slice_get, slice_index, inl, inr, refl, sym, ◌∙◌, ap, subst, Some}
use Rattle.std.specs.Prelude.{IsTrue}
use Rattle.std.proofs.Math.Decide.{ℕ_discrete}
use Rattle.std.proofs.lemmas.Option.{same_Some}
use Rattle.tso_model.specs.Accesses.{Reads, Writes}
use Rattle.tso_model.specs.Futures.{HasDrainOf, HasReadOf, IsDrainOf, IsReadOf, RunsAreForeseen}
use Rattle.tso_model.specs.Labels.{Running, By, Drain, HasLock, Kind, Label, Thread, Machine, Outside, Read, Rule, Run, Step, call, drain, fault, fence, lock, machine_of, thread_view, read, read_locked, reg, return, thread_views, unlock, write, write_locked}
use Rattle.tso_model.specs.Programs.{Load, Locked, Program}
use Rattle.tso_model.specs.Reasons.{Future, IsFuture}
use Rattle.tso_model.specs.Reduce.{Steps}
use Rattle.tso_model.specs.Relation.{DidDrain, DidRead, DidWrite, Fits, Free, IsOpen, IsShaped, Open, Part, Phase, Section, TookLock, in_phase, inside, part_buffer, part_stage}
use Rattle.tso_model.specs.States.{Buffer, Called, Executing, Same, State, CompactThread, latest}
use Rattle.tso_model.specs.Steps.{Access, Actor, Drains, Exec, Move, Update, move, step, thread_of}
use Rattle.tso_model.specs.Table.{table_future}
use Rattle.tso_model.specs.WellFormed.{IsWellFormed}
use Rattle.tso_model.proofs.Follow.{one}
use Rattle.tso_model.proofs.Held.{not_outside, same_entry, thread_in}
use Rattle.tso_model.proofs.Places.{get_set_other, get_set_same}
use Rattle.tso_model.proofs.Theorems.{steps_stay_well_formed, tables_hold_futures}
use Rattle.tso_model.proofs.Threads.{core_running, threads_get, threads_got}

-- what a thread reads: outside a locked instruction, or in one
data ReadsAt {F : Type 0} (P : Program F) (t : Thread F) (q : ℕ) : Type 0 where
  loads : (f : F) (k : ℕ → F) → t.core ≡ Running f Outside → P.next f ≡ Load q k → ReadsAt P t q
  holds : (f : F) (n : ℕ → ℕ) (k : ℕ → F) → t.core ≡ Running f HasLock → P.next f ≡ Locked q n k → ReadsAt P t q

module _ {F : Type 0} (P : Program F) where
  reads_at : (m : Machine F) (i : ℕ) (t : Thread F) (q v : ℕ) {k : Kind} {m' : Machine F} → k ≡ Read q v → Rule P m i t k m' → ReadsAt P t q
  reads_at m i t q v e (call k idle found) = cc
  reads_at m i t q v e (reg f g running next) = cc
  reads_at m i t q v e (read f p k running next free) = (let same : p ≡ q = cc in loads f k running (subst (λ x. P.next f ≡ Load x k) same next))
  reads_at m i t q v e (write f p w g running next) = cc
  reads_at m i t q v e (drain p w rest entry free) = cc
  reads_at m i t q v e (fence f g running next empty) = cc
  reads_at m i t q v e (lock f p n k running next free empty) = cc
  reads_at m i t q v e (read_locked f p n k running next free) = (let same : p ≡ q = cc in holds f n k running (subst (λ x. P.next f ≡ Locked x n k) same next))
  reads_at m i t q v e (write_locked f p n k old running next) = cc
  reads_at m i t q v e (unlock f p n k old running next held empty) = cc
  reads_at m i t q v e (return f a running next) = cc
  reads_at m i t q v e (fault f n running next) = cc

  drains_at : (m : Machine F) (i : ℕ) (t : Thread F) (q v : ℕ) {k : Kind} {m' : Machine F} → k ≡ Drain q v → Rule P m i t k m' → (w : ℕ) × (rest : Buffer) × (t.buffer ≡ (q, w) ∷ rest)
  drains_at m i t q v e (call k idle found) = cc
  drains_at m i t q v e (reg f g running next) = cc
  drains_at m i t q v e (read f p k running next free) = cc
  drains_at m i t q v e (write f p w g running next) = cc
  drains_at m i t q v e (drain p w rest entry free) = (let same : p ≡ q = cc in (w, rest, subst (λ x. t.buffer ≡ (x, w) ∷ rest) same entry))
  drains_at m i t q v e (fence f g running next empty) = cc
  drains_at m i t q v e (lock f p n k running next free empty) = cc
  drains_at m i t q v e (read_locked f p n k running next free) = cc
  drains_at m i t q v e (write_locked f p n k old running next) = cc
  drains_at m i t q v e (unlock f p n k old running next held empty) = cc
  drains_at m i t q v e (return f a running next) = cc
  drains_at m i t q v e (fault f n running next) = cc

  -- an actor of the thread has a step with this access at the place
  abbrev ReadsNow : State F → ℕ → ℕ → Type 0
  ReadsNow c j q = (a : Actor) × (m : Move F) × (thread_of a ≡ j) × (move P c a ≡ Some m) × Reads m.access q

  abbrev WritesNow : State F → ℕ → ℕ → Type 0
  WritesNow c j q = (a : Actor) × (m : Move F) × (thread_of a ≡ j) × (move P c a ≡ Some m) × Writes m.access q

  load_moves : (c : State F) (i : ℕ) (t : CompactThread F) (f : F) (q : ℕ) (k : ℕ → F) → slice_get c.threads i ≡ Some t → t.core ≡ Executing f → P.next f ≡ Load q k → ReadsNow c i q
  load_moves c i t f q k at running next = (Exec i, record { access = Access.Read q; after = λ w. record { core = Executing (k (latest t.buffer q w)); buffer = t.buffer }; log = Same }, refl, rw (at, running, next) refl, refl)

  update_moves : (c : State F) (s : Section F) → IsOpen P c s → (m : Move F) × (move P c (Exec s.holder) ≡ Some m) × Reads m.access s.place × Writes m.access s.place
  update_moves c s o = (record { access = Update s.place s.new; after = λ w. record { core = Executing (s.after w); buffer = [] }; log = Same }, rw (o.at, o.running, o.locked, o.empty) refl, refl, refl)

  drain_moves : (c : State F) (i : ℕ) (t : CompactThread F) (q w : ℕ) (rest : Buffer) → slice_get c.threads i ≡ Some t → t.buffer ≡ (q, w) ∷ rest → WritesNow c i q
  drain_moves c i t q w rest at entry = (Drains i, record { access = Access.Write q w; after = λ v. record { core = t.core; buffer = rest }; log = Same }, refl, rw (at, entry) refl, refl)

  -- of a thread in no locked instruction
  local_reads : (c : State F) (j : ℕ) (t : CompactThread F) (h : List Called) (q : ℕ) → slice_get c.threads j ≡ Some t → ReadsAt P (thread_view h t) q → ReadsNow c j q
  local_reads c j t h q at (loads f k running next) = load_moves c j t f q k at (core_running t.core f Outside running).0 next
  local_reads c j t h q at (holds f n k running next) = (let x = (core_running t.core f HasLock running).1 in cc)

  -- of the one that is in one
  held_place : (c : State F) (s : Section F) (q : ℕ) → IsOpen P c s → ReadsAt P (thread_in c s) q → q ≡ s.place
  held_place c s q o (loads f k running next) = absurd (not_outside s.part (slice_index c.memory s.place) (let e : Outside ≡ part_stage s.part (slice_index c.memory s.place) = cc in e))
  held_place c s q o (holds f n k running next) = (let l = o.locked in let e : f ≡ s.frame = cc in cc)

  held_entry : (part : Part) (p v q w : ℕ) (rest : Buffer) → part_buffer part p v ≡ (q, w) ∷ rest → q ≡ p
  held_entry TookLock p v q w rest e = cc
  held_entry DidRead p v q w rest e = cc
  held_entry DidWrite p v q w rest e = (same_entry q w p v rest [] e).0
  held_entry DidDrain p v q w rest e = cc

  -- the machine's thread is the compact state's
  local_at : (c : State F) (j : ℕ) (u : Thread F) (q : ℕ) → slice_get (thread_views c.history c.threads) j ≡ Some u → ReadsAt P u q → ReadsNow c j q
  local_at c j u q at r =
      let g = threads_got c.history c.threads j u at in
      local_reads c j g.1 g.0 q g.3 (subst (λ x. ReadsAt P x q) (sym g.4) r)

  local_drain : (c : State F) (j : ℕ) (u : Thread F) (q w : ℕ) (rest : Buffer) → slice_get (thread_views c.history c.threads) j ≡ Some u → u.buffer ≡ (q, w) ∷ rest → WritesNow c j q
  local_drain c j u q w rest at e =
      let g = threads_got c.history c.threads j u at in
      drain_moves c j g.1 q w rest g.3 (ap (λ (x : Thread F). x.buffer) g.4 ∙ e)

  -- the holder's thread
  holder_is : (c : State F) (s : Section F) (j : ℕ) (u : Thread F) → IsOpen P c s → s.holder ≡ j → slice_get (inside c s).threads j ≡ Some u → u ≡ thread_in c s
  holder_is c s j u o e at =
      let here = get_set_same (thread_views c.history c.threads) s.holder (thread_view s.calls s.thread) (thread_in c s) (threads_get c.history c.threads s.holder s.calls s.thread o.begun o.at) in
      same_Some u (thread_in c s) (sym (subst (λ i. slice_get (inside c s).threads i ≡ Some u) (sym e) at) ∙ here)

  reads_now : (c : State F) (phase : Phase F) (j : ℕ) (u : Thread F) (q : ℕ) → Fits P c phase → slice_get (in_phase c phase).threads j ≡ Some u → ReadsAt P u q → ReadsNow c j q
  reads_now c Free j u q fits at r = local_at c j u q at r
  reads_now c (Open s) j u q o at r = go (ℕ_discrete s.holder j)
    where
      go : Dec (s.holder ≡ j) → ReadsNow c j q
      go (yes e) =
          let place : q ≡ s.place = held_place c s q o (subst (λ x. ReadsAt P x q) (holder_is c s j u o e at) r) in
          let (m, em, reads, writes) = update_moves c s o in
          (Exec s.holder, m, e, em, subst (λ x. Reads m.access x) (sym place) reads)
      go (no n) = local_at c j u q (sym (get_set_other (thread_views c.history c.threads) s.holder j _ n) ∙ at) r

  writes_now : (c : State F) (phase : Phase F) (j : ℕ) (u : Thread F) (q w : ℕ) (rest : Buffer) → Fits P c phase → slice_get (in_phase c phase).threads j ≡ Some u → u.buffer ≡ (q, w) ∷ rest → WritesNow c j q
  writes_now c Free j u q w rest fits at e = local_drain c j u q w rest at e
  writes_now c (Open s) j u q w rest o at entry = go (ℕ_discrete s.holder j)
    where
      go : Dec (s.holder ≡ j) → WritesNow c j q
      go (yes e) =
          let place : q ≡ s.place = held_entry s.part s.place _ q w rest (sym (ap (λ (x : Thread F). x.buffer) (holder_is c s j u o e at)) ∙ entry) in
          let (m, em, reads, writes) = update_moves c s o in
          (Exec s.holder, m, e, em, subst (λ x. Writes m.access x) (sym place) writes)
      go (no n) = local_drain c j u q w rest (sym (get_set_other (thread_views c.history c.threads) s.holder j _ n) ∙ at) entry

-- A RUN'S READS AND DRAINS

is_read : (j : ℕ) (k : Kind) (i q : ℕ) → IsReadOf (By j k) i q → (v : ℕ) × (k ≡ Read q v) × (j ≡ i)
is_read j (Read p v) i q (e, s) = (v, ap (λ x. Read x v) s, e)
is_read j _ i q h = absurd h

is_drain : (j : ℕ) (k : Kind) (i q : ℕ) → IsDrainOf (By j k) i q → (v : ℕ) × (k ≡ Drain q v) × (j ≡ i)
is_drain j (Drain p v) i q (e, s) = (v, ap (λ x. Drain x v) s, e)
is_drain j _ i q h = absurd h

module _ {F : Type 0} (p : Program F) (f : Future F) (W : State F → Type 0) (laws : IsFuture p W f) (stays : (s s' : State F) (a : Actor) → W s → step p s a ≡ Some s' → W s') where
  well_along : (c d : State F) (actors : List Actor) → W c → Steps (step p) c actors d → W d
  well_along c d [] w e = subst W e w
  well_along c d (a ∷ actors) w (m, e, r) = well_along m d actors (stays c m a w e) r

  reads_along : (c d : State F) (actors : List Actor) (i q : ℕ) → W c → Steps (step p) c actors d → IsTrue (f.reads d i q) → IsTrue (f.reads c i q)
  reads_along c d [] i q w e h = subst (λ x. IsTrue (f.reads x i q)) (sym e) h
  reads_along c d (a ∷ actors) i q w (m, e, r) h = laws.reads_shrink c m a i q w e (reads_along m d actors i q (stays c m a w e) r h)

  writes_along : (c d : State F) (actors : List Actor) (i q : ℕ) → W c → Steps (step p) c actors d → IsTrue (f.writes d i q) → IsTrue (f.writes c i q)
  writes_along c d [] i q w e h = subst (λ x. IsTrue (f.writes x i q)) (sym e) h
  writes_along c d (a ∷ actors) i q w (m, e, r) h = laws.writes_shrink c m a i q w e (writes_along m d actors i q (stays c m a w e) r h)

  read_label : (c : State F) (phase : Phase F) (j : ℕ) (k : Kind) (m : Machine F) (i q : ℕ) → W c → Fits p c phase → Step p (in_phase c phase) (By j k) m → IsReadOf (By j k) i q → IsTrue (f.reads c i q)
  read_label c phase j k m i q w fits x h =
      let (v, is, e) = is_read j k i q h in
      let (a, mv, own, em, reads) = reads_now p c phase j x.0 q fits x.1 (reads_at p (in_phase c phase) j x.0 q v is x.2) in
      subst (λ n. IsTrue (f.reads c n q)) (own ∙ e) (laws.reads_now c a mv q w em reads)

  drain_label : (c : State F) (phase : Phase F) (j : ℕ) (k : Kind) (m : Machine F) (i q : ℕ) → W c → Fits p c phase → Step p (in_phase c phase) (By j k) m → IsDrainOf (By j k) i q → IsTrue (f.writes c i q)
  drain_label c phase j k m i q w fits x h =
      let (v, is, e) = is_drain j k i q h in
      let (word, rest, entry) = drains_at p (in_phase c phase) j x.0 q v is x.2 in
      let (a, mv, own, em, writes) = writes_now p c phase j x.0 q word rest fits x.1 entry in
      subst (λ n. IsTrue (f.writes c n q)) (own ∙ e) (laws.writes_now c a mv q w em writes)

  pub all_reads : (c : State F) (phase : Phase F) (ls : List Label) (n m : Machine F) (i q : ℕ) → W c → Fits p c phase → n ≡ in_phase c phase → Run p n ls m → HasReadOf ls i q → IsTrue (f.reads c i q)
  all_reads c phase [] n m i q w fits is r h = absurd h
  all_reads c phase (By j k ∷ ls) n m i q w fits is r (inl h) = read_label c phase j k r.0 i q w fits (subst (λ y. Step p y (By j k) r.0) is r.1) h
  all_reads c phase (By j k ∷ ls) n m i q w fits is r (inr h) =
      let x = one p c phase (By j k) r.0 fits (subst (λ y. Step p y (By j k) r.0) is r.1) in
      reads_along c x.state x.actors i q w x.steps (all_reads x.state x.phase ls r.0 m i q (well_along c x.state x.actors w x.steps) x.fits x.machine r.2 h)

  pub all_drains : (c : State F) (phase : Phase F) (ls : List Label) (n m : Machine F) (i q : ℕ) → W c → Fits p c phase → n ≡ in_phase c phase → Run p n ls m → HasDrainOf ls i q → IsTrue (f.writes c i q)
  all_drains c phase [] n m i q w fits is r h = absurd h
  all_drains c phase (By j k ∷ ls) n m i q w fits is r (inl h) = drain_label c phase j k r.0 i q w fits (subst (λ y. Step p y (By j k) r.0) is r.1) h
  all_drains c phase (By j k ∷ ls) n m i q w fits is r (inr h) =
      let x = one p c phase (By j k) r.0 fits (subst (λ y. Step p y (By j k) r.0) is r.1) in
      writes_along c x.state x.actors i q w x.steps (all_drains x.state x.phase ls r.0 m i q (well_along c x.state x.actors w x.steps) x.fits x.machine r.2 h)

pub runs_are_foreseen : (F : Type 0) → RunsAreForeseen F
runs_are_foreseen F p size sound rank t r closed s ls m w run =
    let laws = tables_hold_futures F p size sound t closed in
    let stays = steps_stay_well_formed F p size sound rank r in
    let shaped : IsShaped s = w.histories ∙ sym w.threads in
    record {
      reads = λ i q h. all_reads p (table_future p t) (IsWellFormed p size sound) laws stays s Free ls (machine_of s) m i q w shaped refl run h;
      drains = λ i q h. all_drains p (table_future p t) (IsWellFormed p size sound) laws stays s Free ls (machine_of s) m i q w shaped refl run h;
    }
