-- The labels of the thread that is in a locked instruction.
use Rattle.std.proofs.Common.{◌≡◌, ℕ, List, [], ◌∷◌, ◌++◌, length, slice_set, slice_index, refl, sym, ◌∙◌, ap, None}
use Rattle.std.proofs.lemmas.List.{length-set}
use Rattle.tso_model.specs.Labels.{Running, By, Drain, HasLock, HasRead, HasWritten, Kind, Core, Thread, Machine, Outside, Read, Rule, Stage, Unlock, Write, after_label, call, drain, fault, fence, lock, read, read_locked, reg, return, unlock, update, write, write_locked}
use Rattle.tso_model.specs.Programs.{Locked, Program}
use Rattle.tso_model.specs.Relation.{DidDrain, DidRead, DidWrite, Free, IsOpen, Open, Part, Section, TookLock, inside, part_buffer, part_stage}
use Rattle.tso_model.specs.States.{Executing, State, CompactThread, word_seen}
use Rattle.tso_model.specs.Steps.{Exec}
use Rattle.tso_model.proofs.Local.{Matched, step_locked}
use Rattle.tso_model.proofs.Places.{set_set_same}
use Rattle.tso_model.proofs.Threads.{threads_put}

pub same_entry : (q v p w : ℕ) (rest more : List (ℕ × ℕ)) → ◌≡◌ {A = List (ℕ × ℕ)} ((p, w) ∷ more) ((q, v) ∷ rest) → (q ≡ p) × (v ≡ w) × (rest ≡ more)
same_entry q v p w rest more e =
    let h : ◌≡◌ {A = ℕ × ℕ} (q, v) (p, w) = cc in
    (ap (λ (x : ℕ × ℕ). x.0) h, ap (λ (x : ℕ × ℕ). x.1) h, cc)

pub not_outside : (part : Part) (v : ℕ) → Outside ≡ part_stage part v → ⊥
not_outside TookLock v e = cc
not_outside DidRead v e = cc
not_outside DidWrite v e = cc
not_outside DidDrain v e = cc

module _ {F : Type 0} where
  -- the labels of a thread that is in the locked instruction at p
  data HeldRule (P : Program F) (m : Machine F) (i : ℕ) (t : Thread F) (f : F) (p : ℕ) (w : ℕ → ℕ) (after : ℕ → F) : Kind → Machine F → Type 0 where
    reads : t.core ≡ Running f HasLock → HeldRule P m i t f p w after (Read p (word_seen t.buffer m.memory p)) (update m i (record t { core = Running f (HasRead (word_seen t.buffer m.memory p)) }))
    writes : (old : ℕ) → t.core ≡ Running f (HasRead old) → HeldRule P m i t f p w after (Write p (w old)) (update m i (record t { core = Running f (HasWritten old); buffer = t.buffer ++ (p, w old) ∷ [] }))
    drains : (q v : ℕ) (rest : List (ℕ × ℕ)) → t.buffer ≡ (q, v) ∷ rest → HeldRule P m i t f p w after (Drain q v) (record m { memory = slice_set m.memory q v; threads = slice_set m.threads i (record t { buffer = rest }) })
    unlocks : (old : ℕ) → t.core ≡ Running f (HasWritten old) → t.buffer ≡ [] → HeldRule P m i t f p w after Unlock (record m { lock = None; threads = slice_set m.threads i (record t { core = Running (after old) Outside }) })

  same_locked : (P : Program F) (core : Core F) (f g : F) (p q : ℕ) (w x : ℕ → ℕ) (k l : ℕ → F) (st su : Stage) → core ≡ Running f st → core ≡ Running g su → P.next f ≡ Locked p w k → P.next g ≡ Locked q x l → (q ≡ p) × (x ≡ w) × (l ≡ k) × (g ≡ f)
  same_locked P core f g p q w x k l st su a b c d = (cc, cc, cc, cc)

  same_stage : (core : Core F) (f g : F) (st su : Stage) → core ≡ Running f st → core ≡ Running g su → su ≡ st
  same_stage core f g st su a b = cc

  classify : (P : Program F) (m : Machine F) (i : ℕ) (t : Thread F) (f : F) (p : ℕ) (w : ℕ → ℕ) (after : ℕ → F) (st : Stage) → t.core ≡ Running f st → P.next f ≡ Locked p w after → (Outside ≡ st → ⊥)
      → {k : Kind} {m' : Machine F} → Rule P m i t k m' → HeldRule P m i t f p w after k m'
  classify P m i t f p w after st go lk n (call k idle found) = cc
  classify P m i t f p w after st go lk n (reg g h running next) = absurd (n (same_stage t.core f g st _ go running))
  classify P m i t f p w after st go lk n (read g q k running next free) = absurd (n (same_stage t.core f g st _ go running))
  classify P m i t f p w after st go lk n (write g q v h running next) = absurd (n (same_stage t.core f g st _ go running))
  classify P m i t f p w after st go lk n (drain q v rest entry free) = drains q v rest entry
  classify P m i t f p w after st go lk n (fence g h running next empty) = absurd (n (same_stage t.core f g st _ go running))
  classify P m i t f p w after st go lk n (lock g q x k running next free empty) = absurd (n (same_stage t.core f g st _ go running))
  classify P m i t f p w after st go lk n (read_locked g q x k running next free) =
      let e = same_locked P t.core f g p q w x after k st _ go running lk next in rw (e.0, e.3) (reads (rw e.3 at running))
  classify P m i t f p w after st go lk n (write_locked g q x k old running next) =
      let e = same_locked P t.core f g p q w x after k st _ go running lk next in rw (e.0, e.1, e.3) (writes old (rw e.3 at running))
  classify P m i t f p w after st go lk n (unlock g q x k old running next held empty) =
      let e = same_locked P t.core f g p q w x after k st _ go running lk next in rw e.2 (unlocks old (rw e.3 at running) empty)
  classify P m i t f p w after st go lk n (return g a running next) = absurd (n (same_stage t.core f g st _ go running))
  classify P m i t f p w after st go lk n (fault g w' running next) = absurd (n (same_stage t.core f g st _ go running))

  -- the holder's thread, as the machine has it
  abbrev pub thread_in : State F → Section F → Thread F
  thread_in c s =
      record {
        begun = length s.calls;
        core = Running s.frame (part_stage s.part (slice_index c.memory s.place));
        buffer = part_buffer s.part s.place (s.new (slice_index c.memory s.place));
      }

  -- the section with its next label taken
  abbrev pub with_part : Section F → Part → Section F
  with_part s part = record s { part = part }

  onward : (P : Program F) (c : State F) (s : Section F) (part : Part) (k : Kind) (m' : Machine F) → IsOpen P c s → m' ≡ inside c (with_part s part) → c.history ≡ after_label c.history (By s.holder k) → Matched P c (By s.holder k) m'
  onward P c s part k m' o e h =
      record {
        actors = [];
        state = c;
        steps = refl;
        phase = Open (with_part s part);
        fits = record { shaped = o.shaped; begun = o.begun; at = o.at; running = o.running; empty = o.empty; locked = o.locked };
        machine = e;
        same = h;
      }

  same_read : (f : F) (a b : ℕ) → Running f (HasRead a) ≡ Running f (HasRead b) → b ≡ a
  same_read f a b e = cc

  same_written : (f : F) (a b : ℕ) → Running f (HasWritten a) ≡ Running f (HasWritten b) → b ≡ a
  same_written f a b e = cc

  finished : (P : Program F) (c : State F) (s : Section F) → IsOpen P c s
      → Matched P c (By s.holder Unlock) (record (inside c (with_part s DidDrain)) { lock = None; threads = slice_set (inside c (with_part s DidDrain)).threads s.holder (record (thread_in c (with_part s DidDrain)) { core = Running (s.after (slice_index c.memory s.place)) Outside }) })
  finished P c s o =
      let u : CompactThread F = record s.thread { core = Executing (s.after (slice_index c.memory s.place)) } in
      let d : State F = record { memory = slice_set c.memory s.place (s.new (slice_index c.memory s.place)); history = c.history; threads = slice_set c.threads s.holder u } in
      record {
        actors = Exec s.holder ∷ [];
        state = d;
        steps = (d, step_locked P c s.holder s.thread s.frame s.place s.new s.after o.at o.running o.locked o.empty, refl);
        phase = Free;
        fits = o.shaped ∙ sym (length-set c.threads s.holder u);
        machine = rw (threads_put c.history c.threads s.holder s.calls u o.begun, o.empty) (rw set_set_same refl);
        same = refl;
      }

  held : (P : Program F) (c : State F) (s : Section F) → IsOpen P c s → (part : Part)
      → {k : Kind} {m' : Machine F} → HeldRule P (inside c (with_part s part)) s.holder (thread_in c (with_part s part)) s.frame s.place s.new s.after k m' → Matched P c (By s.holder k) m'
  held P c s o TookLock (reads out) = onward P c s DidRead _ _ o (rw set_set_same refl) refl
  held P c s o TookLock (writes old out) = cc
  held P c s o TookLock (drains q v rest entry) = cc
  held P c s o TookLock (unlocks old out empty) = cc
  held P c s o DidRead (reads out) = cc
  held P c s o DidRead (writes old out) = rw (same_read s.frame _ old out) (onward P c s DidWrite _ _ o (rw set_set_same refl) refl)
  held P c s o DidRead (drains q v rest entry) = cc
  held P c s o DidRead (unlocks old out empty) = cc
  held P c s o DidWrite (reads out) = cc
  held P c s o DidWrite (writes old out) = cc
  held P c s o DidWrite (drains q v rest entry) =
      let e = same_entry q v s.place (s.new (slice_index c.memory s.place)) rest [] entry in
      rw (e.0, e.1, e.2) (onward P c s DidDrain _ _ o (rw set_set_same refl) refl)
  held P c s o DidWrite (unlocks old out empty) = cc
  held P c s o DidDrain (reads out) = cc
  held P c s o DidDrain (writes old out) = cc
  held P c s o DidDrain (drains q v rest entry) = cc
  held P c s o DidDrain (unlocks old out empty) = rw (same_written s.frame _ old out) (finished P c s o)

  -- a label of the thread that is in a locked instruction
  pub of_holder : (P : Program F) (c : State F) (s : Section F) → IsOpen P c s
      → {k : Kind} {m' : Machine F} → Rule P (inside c s) s.holder (thread_in c s) k m' → Matched P c (By s.holder k) m'
  of_holder P c s o r = held P c s o s.part (classify P (inside c s) s.holder (thread_in c s) s.frame s.place s.new s.after _ refl o.locked (not_outside s.part (slice_index c.memory s.place)) r)
