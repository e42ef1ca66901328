-- The events of a run fit the calls that have begun: a thread's last call is pending while it runs.
use Rattle.std.proofs.Common.{◌≡◌, ◌≢◌, ℕ, zero, suc, List, [], ◌∷◌, ◌++◌, map, length, slice_get, slice_set, refl, sym, ◌∙◌, ap, subst, arith, Some}
use Rattle.std.proofs.lemmas.Option.{none-some, same_Some}
use Rattle.std.proofs.Common.{◌<◌}
use Rattle.std.proofs.Math.Decide.{ℕ_discrete}
use Rattle.std.proofs.lemmas.List.{length-set, length-map}
use Rattle.std.proofs.lemmas.Option.{slice_get_within}
use Rattle.tso_model.specs.Events.{after_events, events_of}
use Rattle.tso_model.specs.Labels.{Running, Idle, By, Call, Drain, Fault, Fence, Stopped, HasLock, HasRead, HasWritten, Kind, Label, Lock, Core, Thread, Machine, Outside, Read, Reg, Return, Rule, Run, Stage, Step, Unlock, Write, after_label, after_labels, call, drain, fault, fence, first_machine, lock, read, read_locked, reg, return, unlock, write, write_locked}
use Rattle.tso_model.specs.Programs.{CallKind, Program}
use Rattle.tso_model.specs.States.{Called, answered, begun_call, calls_in, first_history, first_state}
use Rattle.tso_model.proofs.Ordered.{AllFit, LastClosed, LastOpen, first_empty, in_other, in_same, last_answered, last_begun}
use Rattle.tso_model.proofs.Places.{get_set_other, get_set_same}

abbrev pub OpenFor : Kind → List Called → Type 0
OpenFor (Return a) cs = LastOpen cs
OpenFor (Call k) cs = LastClosed cs
OpenFor _ cs = Unit {0}

length_after : (h : List (List Called)) (l : Label) → length (after_label h l) ≡ length h
length_after h (By j (Call k)) = length-set h j (calls_in h j ++ begun_call k h ∷ [])
length_after h (By j (Return a)) = length-set h j (answered a (calls_in h j))
length_after h (By j _) = refl

others_same : (h : List (List Called)) (j i : ℕ) (k : Kind) → j ≢ i → calls_in (after_label h (By j k)) i ≡ calls_in h i
others_same h j i (Call k) n = in_other h j i (calls_in h j ++ begun_call k h ∷ []) n
others_same h j i (Return a) n = in_other h j i (answered a (calls_in h j)) n
others_same h j i _ n = refl

-- a label's event, if it is one
fits_more : (h : List (List Called)) (j : ℕ) (k : Kind) (ls : List Label) → (j < length h) × OpenFor k (calls_in h j) → AllFit (after_label h (By j k)) (events_of ls) → AllFit h (events_of (By j k ∷ ls))
fits_more h j (Call k) ls x y = (x, y)
fits_more h j (Return a) ls x y = (x, y)
fits_more h j Reg ls x y = y
fits_more h j (Read p v) ls x y = y
fits_more h j (Write p v) ls x y = y
fits_more h j (Drain p v) ls x y = y
fits_more h j Fence ls x y = y
fits_more h j Lock ls x y = y
fits_more h j Unlock ls x y = y
fits_more h j (Fault n) ls x y = y

-- the history after labels is that after their events
one_event : (h : List (List Called)) (j : ℕ) (k : Kind) (ls : List Label) → after_events h (events_of (By j k ∷ ls)) ≡ after_events (after_label h (By j k)) (events_of ls)
one_event h j (Call k) ls = refl
one_event h j (Return a) ls = refl
one_event h j Reg ls = refl
one_event h j (Read p v) ls = refl
one_event h j (Write p v) ls = refl
one_event h j (Drain p v) ls = refl
one_event h j Fence ls = refl
one_event h j Lock ls = refl
one_event h j Unlock ls = refl
one_event h j (Fault n) ls = refl

pub after_same : (h : List (List Called)) (ls : List Label) → after_labels h ls ≡ after_events h (events_of ls)
after_same h [] = refl
after_same h (By j k ∷ ls) = after_same (after_label h (By j k)) ls ∙ sym (one_event h j k ls)

module _ {F : Type 0} where
  -- the labels of a run fit: a thread's last call is open while it runs
  abbrev OpenCore : Core F → List Called → Type 0
  OpenCore Idle cs = LastClosed cs
  OpenCore (Running f st) cs = LastOpen cs
  OpenCore Stopped cs = Unit {0}

  record Keeps (m : Machine F) (h : List (List Called)) : Type 0 where
    width : length m.threads ≡ length h
    open_calls : (i : ℕ) (t : Thread F) → slice_get m.threads i ≡ Some t → OpenCore t.core (calls_in h i)

  opens : (t : Thread F) (f : F) (st : Stage) (cs : List Called) → t.core ≡ Running f st → OpenCore t.core cs → LastOpen cs
  opens t f st cs e o = let Q : Core F → Type 0 = λ x. OpenCore x cs in subst Q e o

  rule_fits : (P : Program F) (m : Machine F) (j : ℕ) (t : Thread F) (cs : List Called) → OpenCore t.core cs → {k : Kind} {m' : Machine F} → Rule P m j t k m' → OpenFor k cs
  rule_fits P m j t cs o (call k idle found) = let Q : Core F → Type 0 = λ x. OpenCore x cs in subst Q idle o
  rule_fits P m j t cs o (reg f g running next) = tt
  rule_fits P m j t cs o (read f p k running next free) = tt
  rule_fits P m j t cs o (write f p v g running next) = tt
  rule_fits P m j t cs o (drain p v rest entry free) = tt
  rule_fits P m j t cs o (fence f g running next empty) = tt
  rule_fits P m j t cs o (lock f p n k running next free empty) = tt
  rule_fits P m j t cs o (read_locked f p n k running next free) = tt
  rule_fits P m j t cs o (write_locked f p n k old running next) = tt
  rule_fits P m j t cs o (unlock f p n k old running next held empty) = tt
  rule_fits P m j t cs o (return f a running next) = opens t f Outside cs running o
  rule_fits P m j t cs o (fault f n running next) = tt

  record Moved (m : Machine F) (h : List (List Called)) (j : ℕ) (k : Kind) (m' : Machine F) : Type 0 where
    thread : Thread F
    threads : m'.threads ≡ slice_set m.threads j thread
    open_call : OpenCore thread.core (calls_in (after_label h (By j k)) j)

  rule_moves : (P : Program F) (m : Machine F) (h : List (List Called)) (j : ℕ) (t : Thread F) → j < length h → OpenCore t.core (calls_in h j) → {k : Kind} {m' : Machine F} → Rule P m j t k m' → Moved m h j k m'
  rule_moves P m h j t lt o (call k idle found) =
      record { thread = _; threads = refl; open_call = rw (in_same h j (calls_in h j ++ begun_call k h ∷ []) lt) (last_begun (calls_in h j) (begun_call k h) refl) }
  rule_moves P m h j t lt o (reg f g running next) = record { thread = _; threads = refl; open_call = opens t f Outside (calls_in h j) running o }
  rule_moves P m h j t lt o (read f p k running next free) = record { thread = _; threads = refl; open_call = opens t f Outside (calls_in h j) running o }
  rule_moves P m h j t lt o (write f p v g running next) = record { thread = _; threads = refl; open_call = opens t f Outside (calls_in h j) running o }
  rule_moves P m h j t lt o (drain p v rest entry free) = record { thread = _; threads = refl; open_call = o }
  rule_moves P m h j t lt o (fence f g running next empty) = record { thread = _; threads = refl; open_call = opens t f Outside (calls_in h j) running o }
  rule_moves P m h j t lt o (lock f p n k running next free empty) = record { thread = _; threads = refl; open_call = opens t f Outside (calls_in h j) running o }
  rule_moves P m h j t lt o (read_locked f p n k running next free) = record { thread = _; threads = refl; open_call = opens t f HasLock (calls_in h j) running o }
  rule_moves P m h j t lt o (write_locked f p n k old running next) = record { thread = _; threads = refl; open_call = opens t f (HasRead old) (calls_in h j) running o }
  rule_moves P m h j t lt o (unlock f p n k old running next held empty) = record { thread = _; threads = refl; open_call = opens t f (HasWritten old) (calls_in h j) running o }
  rule_moves P m h j t lt o (return f a running next) =
      record { thread = _; threads = refl; open_call = rw (in_same h j (answered a (calls_in h j)) lt) (last_answered a (calls_in h j)) }
  rule_moves P m h j t lt o (fault f n running next) = record { thread = _; threads = refl; open_call = tt }

  still_open : (m m' : Machine F) (h : List (List Called)) (j i : ℕ) (k : Kind) (t u : Thread F) → Keeps m h → Moved m h j k m' → slice_get m.threads j ≡ Some t → slice_get m'.threads i ≡ Some u → Dec (j ≡ i)
      → OpenCore u.core (calls_in (after_label h (By j k)) i)
  still_open m m' h j i k t u keeps x at e (yes q) =
      let Q : ℕ → Type 0 = λ n. slice_get m'.threads n ≡ Some u in
      let e1 : slice_get m'.threads j ≡ Some u = subst Q (sym q) e in
      let e2 : slice_get m'.threads j ≡ Some x.thread = rw x.threads (get_set_same m.threads j t x.thread at) in
      let R : Thread F → Type 0 = λ v. OpenCore v.core (calls_in (after_label h (By j k)) j) in
      let S : ℕ → Type 0 = λ n. OpenCore u.core (calls_in (after_label h (By j k)) n) in
      subst S q (subst R (same_Some x.thread u (sym e2 ∙ e1)) x.open_call)
  still_open m m' h j i k t u keeps x at e (no n) =
      let e1 : slice_get m.threads i ≡ Some u = sym (get_set_other m.threads j i x.thread n) ∙ (rw x.threads at e) in
      rw (others_same h j i k n) (keeps.open_calls i u e1)

  fits_step : (P : Program F) (m m' : Machine F) (j : ℕ) (k : Kind) (h : List (List Called)) → Keeps m h → Step P m (By j k) m' → ((j < length h) × OpenFor k (calls_in h j)) × Keeps m' (after_label h (By j k))
  fits_step P m m' j k h keeps x =
      let within = slice_get_within m.threads j x.0 x.1 in
      let lt : j < length h = omega (arith, within, keeps.width) in
      let here = keeps.open_calls j x.0 x.1 in
      let moved = rule_moves P m h j x.0 lt here x.2 in
      let width = ap length moved.threads ∙ (length-set m.threads j moved.thread ∙ (keeps.width ∙ sym (length_after h (By j k)))) in
      ((lt, rule_fits P m j x.0 (calls_in h j) here x.2), record { width = width; open_calls = λ i u e. still_open m m' h j i k x.0 u keeps moved x.1 e (ℕ_discrete j i) })

  fits_run : (P : Program F) (m m' : Machine F) (ls : List Label) (h : List (List Called)) → Keeps m h → Run P m ls m' → AllFit h (events_of ls)
  fits_run P m m' [] h keeps r = tt
  fits_run P m m' (By j k ∷ ls) h keeps r =
      let x = fits_step P m r.0 j k h keeps r.1 in
      fits_more h j k ls x.0 (fits_run P r.0 m' ls (after_label h (By j k)) x.1 r.2)

  first_at_rest : (kss : List (List CallKind)) (i : ℕ) (t : Thread F) → slice_get (map (λ ks. record { begun = 0; core = Idle; buffer = [] }) kss) i ≡ Some t → t.core ≡ Idle
  first_at_rest [] i t e = absurd (none-some t e)
  first_at_rest (k ∷ kss) zero t e = ap (λ (u : Thread F). u.core) (sym (same_Some _ t e))
  first_at_rest (k ∷ kss) (suc i) t e = first_at_rest kss i t e

  first_keeps : (P : Program F) (memory : List ℕ) → Keeps (first_machine P memory) (first_state P memory).history
  first_keeps P memory =
      record {
        width = length-map P.calls _ ∙ sym (length-map P.calls _);
        open_calls = λ i t e. let Q : Core F → Type 0 = λ x. OpenCore x (calls_in (first_state P memory).history i) in subst Q (sym (first_at_rest P.calls i t e)) (rw (first_empty P.calls i) tt);
      }

  -- the events of a run from the start fit
  pub first_fits : (P : Program F) (memory : List ℕ) (ls : List Label) (m : Machine F) → Run P (first_machine P memory) ls m → AllFit (first_history P) (events_of ls)
  first_fits P memory ls m r = fits_run P (first_machine P memory) m ls (first_history P) (first_keeps P memory) r
