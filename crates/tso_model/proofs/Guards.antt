-- What holds of each machine that a run leads to: sizes, places in buffers, and who is in a locked instruction.
use Rattle.std.proofs.Common.{◌≡◌, ◌<◌, ℕ, zero, suc, Bool, List, [], ◌∷◌, ◌++◌, length, map, slice_get, slice_set, slice_index, refl, sym, ◌∙◌, ap, subst, Some, inl, inr}
use Rattle.std.proofs.lemmas.List.{length-set}
use Rattle.std.proofs.lemmas.Option.{none-some, same_Some}
use Rattle.std.proofs.Math.Decide.{ℕ_discrete}
use Rattle.tso_model.specs.Invariants.{AllWithin, BuffersStayWithin, IsAsLarge, IsGuarded, IsHolding, IsInSection, IsSectionBuffer, SectionsAreGuarded, SizesStay}
use Rattle.tso_model.specs.Labels.{By, HasRead, Idle, Kind, Label, Machine, Outside, Rule, Run, Running, Stage, Thread, call, core_of, drain, fault, fence, first_machine, lock, read, read_locked, reg, return, thread_views, unlock, write, write_locked}
use Rattle.tso_model.specs.Measure.{AllSound, IsRanked, IsSound}
use Rattle.tso_model.specs.Programs.{CallKind, Program}
use Rattle.tso_model.specs.Relation.{Belongs, DidDrain, DidRead, DidWrite, Fits, Free, IsOpen, Open, Part, Phase, Section, TookLock, in_phase, inside, part_buffer, part_stage}
use Rattle.tso_model.specs.States.{Buffer, CompactCore, Executing, Halted, Resting, State}
use Rattle.tso_model.specs.WellFormed.{Within}
use Rattle.tso_model.proofs.Falls.{first_sound, sound_step}
use Rattle.tso_model.proofs.Follow.{runs_are_followed}
use Rattle.tso_model.proofs.Held.{thread_in}
use Rattle.tso_model.proofs.Places.{get_set_other, get_set_same}
use Rattle.tso_model.proofs.Threads.{threads_get, threads_got}

-- PLACES

within_more : (size p v : ℕ) (b : Buffer) → Within size b → p < size → Within size (b ++ (p, v) ∷ [])
within_more size p v [] w lt = (lt, tt)
within_more size p v (e ∷ rest) w lt = (w.0, within_more size p v rest w.1 lt)

within_tail : (size p v : ℕ) (b rest : Buffer) → Within size b → b ≡ (p, v) ∷ rest → Within size rest
within_tail size p v b rest w e = (subst (Within size) e w).1

-- the buffer of a thread that is in a locked instruction
section_buffer : (part : Part) (old p : ℕ) (n : ℕ → ℕ) → IsSectionBuffer (part_stage part old) p n (part_buffer part p (n old))
section_buffer TookLock old p n = refl
section_buffer DidRead old p n = refl
section_buffer DidWrite old p n = inl refl
section_buffer DidDrain old p n = inr refl

module _ {F : Type 0} where
  -- SIZES

  as_large : (P : Program F) (m : Machine F) (i : ℕ) (t : Thread F) {k : Kind} {m' : Machine F} → Rule P m i t k m' → IsAsLarge m m'
  as_large P m i t (call k idle found) = record { memory = refl; threads = length-set m.threads i _ }
  as_large P m i t (reg f g running next) = record { memory = refl; threads = length-set m.threads i _ }
  as_large P m i t (read f p k running next free) = record { memory = refl; threads = length-set m.threads i _ }
  as_large P m i t (write f p v g running next) = record { memory = refl; threads = length-set m.threads i _ }
  as_large P m i t (drain p v rest entry free) = record { memory = length-set m.memory p v; threads = length-set m.threads i _ }
  as_large P m i t (fence f g running next empty) = record { memory = refl; threads = length-set m.threads i _ }
  as_large P m i t (lock f p w k running next free empty) = record { memory = refl; threads = length-set m.threads i _ }
  as_large P m i t (read_locked f p w k running next free) = record { memory = refl; threads = length-set m.threads i _ }
  as_large P m i t (write_locked f p w k old running next) = record { memory = refl; threads = length-set m.threads i _ }
  as_large P m i t (unlock f p w k old running next held empty) = record { memory = refl; threads = length-set m.threads i _ }
  as_large P m i t (return f a running next) = record { memory = refl; threads = length-set m.threads i _ }
  as_large P m i t (fault f n running next) = record { memory = refl; threads = length-set m.threads i _ }

  pub sizes_stay : SizesStay F
  sizes_stay P m m' [] r = record { memory = ap (λ (n : Machine F). length n.memory) r; threads = ap (λ (n : Machine F). length n.threads) r }
  sizes_stay P m m' (By i k ∷ ls) r =
      let x = as_large P m i r.1.0 r.1.2 in
      let y = sizes_stay P r.0 m' ls r.2 in
      record { memory = y.memory ∙ x.memory; threads = y.threads ∙ x.threads }

  -- the thread after a label, whose buffered places are inside too
  record StaysWithin (size : ℕ) (m : Machine F) (i : ℕ) (m' : Machine F) : Type 0 where
    thread : Thread F
    threads : m'.threads ≡ slice_set m.threads i thread
    within : Within size thread.buffer

  within_rule : (P : Program F) (size : ℕ) (sound : CallKind → F → Bool) (rank : F → ℕ) → IsRanked P size sound rank → (m : Machine F) (i : ℕ) (t : Thread F)
      → ((f : F) (st : Stage) → t.core ≡ Running f st → IsSound sound f) → Within size t.buffer → {k : Kind} {m' : Machine F} → Rule P m i t k m' → StaysWithin size m i m'
  within_rule P size sound rank r m i t s w (call k idle found) = record { thread = _; threads = refl; within = w }
  within_rule P size sound rank r m i t s w (reg f g running next) = record { thread = _; threads = refl; within = w }
  within_rule P size sound rank r m i t s w (read f p k running next free) = record { thread = _; threads = refl; within = w }
  within_rule P size sound rank r m i t s w (write f p v g running next) =
      let y = s f Outside running in record { thread = _; threads = refl; within = within_more size p v t.buffer w (r.store y.0 f p v g y.1 next).2 }
  within_rule P size sound rank r m i t s w (drain p v rest entry free) = record { thread = _; threads = refl; within = within_tail size p v t.buffer rest w entry }
  within_rule P size sound rank r m i t s w (fence f g running next empty) = record { thread = _; threads = refl; within = w }
  within_rule P size sound rank r m i t s w (lock f p n k running next free empty) = record { thread = _; threads = refl; within = w }
  within_rule P size sound rank r m i t s w (read_locked f p n k running next free) = record { thread = _; threads = refl; within = w }
  within_rule P size sound rank r m i t s w (write_locked f p n k old running next) =
      let y = s f (HasRead old) running in record { thread = _; threads = refl; within = within_more size p (n old) t.buffer w (r.locked y.0 f p n k old y.1 next).2 }
  within_rule P size sound rank r m i t s w (unlock f p n k old running next held empty) = record { thread = _; threads = refl; within = w }
  within_rule P size sound rank r m i t s w (return f a running next) = record { thread = _; threads = refl; within = w }
  within_rule P size sound rank r m i t s w (fault f n running next) = record { thread = _; threads = refl; within = w }

  within_at : (size : ℕ) (m m' : Machine F) (i j : ℕ) (t v : Thread F) → slice_get m.threads i ≡ Some t → AllWithin size m → (x : StaysWithin size m i m') → slice_get m'.threads j ≡ Some v → Dec (i ≡ j) → Within size v.buffer
  within_at size m m' i j t v at w x here (yes e) =
      let there : slice_get m'.threads i ≡ Some x.thread = rw x.threads (get_set_same m.threads i t x.thread at) in
      let same : x.thread ≡ v = same_Some x.thread v (sym there ∙ subst (λ n. slice_get m'.threads n ≡ Some v) (sym e) here) in
      subst (λ (u : Thread F). Within size u.buffer) same x.within
  within_at size m m' i j t v at w x here (no n) = w j v (sym (get_set_other m.threads i j x.thread n) ∙ (rw x.threads at here))

  within_run : (P : Program F) (size : ℕ) (sound : CallKind → F → Bool) (rank : F → ℕ) → IsRanked P size sound rank → (m m' : Machine F) (ls : List Label) → AllSound sound m → AllWithin size m → Run P m ls m' → AllWithin size m'
  within_run P size sound rank r m m' [] s w run = subst (AllWithin size) (sym run) w
  within_run P size sound rank r m m' (By i k ∷ ls) s w (mid, (t, at, rule), rest) =
      let x = within_rule P size sound rank r m i t (λ f st go. s i t f st at go) (w i t at) rule in
      within_run P size sound rank r mid m' ls (sound_step P size sound rank r m (By i k) mid s (t, at, rule)) (λ j v here. within_at size m mid i j t v at w x here (ℕ_discrete i j)) rest

  first_empty : (kss : List (List CallKind)) (i : ℕ) (t : Thread F) → slice_get (map (λ ks. record { begun = 0; core = Idle; buffer = [] }) kss) i ≡ Some t → t.buffer ≡ []
  first_empty [] i t e = absurd (none-some t e)
  first_empty (k ∷ kss) zero t e = ap (λ (u : Thread F). u.buffer) (sym (same_Some _ t e))
  first_empty (k ∷ kss) (suc i) t e = first_empty kss i t e

  pub buffers_stay_within : BuffersStayWithin F
  buffers_stay_within P memory sound rank r ls m run =
      let large = sizes_stay P (first_machine P memory) m ls run in
      rw large.memory (within_run P (length memory) sound rank r (first_machine P memory) m ls (first_sound P sound memory) (λ i t at. rw (first_empty P.calls i t at) tt) run)

  -- LOCKED INSTRUCTIONS

  no_section : (o : CompactCore F) → IsInSection (core_of o) → ⊥
  no_section Resting x = x
  no_section (Executing f) x = x
  no_section Halted x = x

  view_outside : (c : State F) (i : ℕ) (t : Thread F) → slice_get (thread_views c.history c.threads) i ≡ Some t → IsInSection t.core → ⊥
  view_outside c i t at x =
      let g = threads_got c.history c.threads i t at in
      no_section g.1.core (subst (λ (u : Thread F). IsInSection u.core) (sym g.4) x)

  holds : (P : Program F) (c : State F) (s : Section F) → IsOpen P c s → IsHolding P (inside c s) s.holder
  holds P c s o = record {
    thread = thread_in c s;
    at = get_set_same (thread_views c.history c.threads) s.holder _ (thread_in c s) (threads_get c.history c.threads s.holder s.calls s.thread o.begun o.at);
    frame = s.frame;
    stage = part_stage s.part (slice_index c.memory s.place);
    place = s.place;
    new = s.new;
    after = s.after;
    core = refl;
    locked = o.locked;
    buffer = section_buffer s.part (slice_index c.memory s.place) s.place s.new;
  }

  only : (c : State F) (s : Section F) (i : ℕ) (t : Thread F) → slice_get (inside c s).threads i ≡ Some t → IsInSection t.core → Dec (s.holder ≡ i) → Some s.holder ≡ Some i
  only c s i t at x (yes e) = ap Some e
  only c s i t at x (no n) = absurd (view_outside c i t (sym (get_set_other (thread_views c.history c.threads) s.holder i _ n) ∙ at) x)

  guarded : (P : Program F) (c : State F) (phase : Phase F) → Fits P c phase → IsGuarded P (in_phase c phase)
  guarded P c Free fits = record { holder = λ i e. absurd (none-some i e); alone = λ i t at x. absurd (view_outside c i t at x) }
  guarded P c (Open s) o = record {
    holder = λ i e. subst (IsHolding P (inside c s)) (same_Some s.holder i e) (holds P c s o);
    alone = λ i t at x. only c s i t at x (ℕ_discrete s.holder i);
  }

  belongs_guarded : (P : Program F) (m : Machine F) (c : State F) → Belongs P m c → IsGuarded P m
  belongs_guarded P m c b = subst (IsGuarded P) (sym b.2) (guarded P c b.0 b.1)

  pub sections_are_guarded : SectionsAreGuarded F
  sections_are_guarded P memory ls m run = let x = runs_are_followed F P memory ls m run in belongs_guarded P m x.state x.belongs
