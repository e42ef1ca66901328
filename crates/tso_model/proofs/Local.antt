-- A label of a thread that is in no locked instruction is a compact step or takes the lock, also while another thread is in one.
use Rattle.std.proofs.Common.{◌≡◌, ℕ, suc, List, [], ◌∷◌, ◌++◌, length, slice_get, slice_set, slice_index, refl, sym, ◌∙◌, ap, arith, length-append, Some, None, inl, inr}
use Rattle.std.proofs.lemmas.Option.{none-some, same_Some, get_or_from_slice_get}
use Rattle.std.proofs.lemmas.List.{length-set}
use Rattle.tso_model.specs.Labels.{Running, By, Call, Drain, Fault, Fence, HasLock, HasRead, HasWritten, Kind, Label, Lock, Thread, Machine, Outside, Read, Reg, Return, Rule, Unblocked, Write, after_label, call, core_of, drain, fault, fence, lock, thread_view, read, read_locked, reg, return, thread_views, unlock, update, write, write_locked}
use Rattle.tso_model.specs.Programs.{Answer, Barrier, CallKind, Fail, FaultKind, Load, Locked, Program, Ret, Silent, Store}
use Rattle.tso_model.specs.Prologue.{next_call}
use Rattle.tso_model.specs.Reduce.{Steps}
use Rattle.tso_model.specs.Relation.{Fits, Free, IsShaped, Open, Phase, Section, TookLock, in_phase}
use Rattle.tso_model.specs.States.{Called, Resting, Executing, State, Halted, CompactThread, answered, begun_call, calls_in, word_seen}
use Rattle.tso_model.specs.Steps.{Actor, Drains, Exec, step}
use Rattle.tso_model.proofs.Begin.{next_same}
use Rattle.tso_model.proofs.Places.{get_set_other, set_here, set_set_other}
use Rattle.tso_model.proofs.Threads.{core_rest, core_running, threads_put, threads_set}

pub length_answered : (a : Answer) (xs : List Called) → length (answered a xs) ≡ length xs
length_answered a [] = refl
length_answered a (x ∷ []) = refl
length_answered a (x ∷ y ∷ ys) = ap suc (length_answered a (y ∷ ys))

pub length_begun : {A : Type 0} (xs : List A) (x : A) → length (xs ++ x ∷ []) ≡ suc (length xs)
length_begun xs x = omega (arith, length-append xs (x ∷ []))

module _ {F : Type 0} where
  -- the state with another thread i
  abbrev pub put : State F → ℕ → CompactThread F → State F
  put c i t = record c { threads = slice_set c.threads i t }

  abbrev pub IsHolder : Phase F → ℕ → Type 0
  IsHolder Free i = ⊥
  IsHolder (Open s) i = s.holder ≡ i

  -- the label from c's machine is matched by compact steps
  pub record Matched (P : Program F) (c : State F) (l : Label) (m' : Machine F) : Type 0 where
    pub actors : List Actor
    pub state : State F
    pub steps : Steps (step P) c actors state
    pub phase : Phase F
    pub fits : Fits P state phase
    pub machine : m' ≡ in_phase state phase
    pub same : state.history ≡ after_label c.history l

  -- c with another thread i, whose calls are h
  abbrev pub put_with : State F → ℕ → CompactThread F → List Called → State F
  put_with c i t h = record { memory = c.memory; threads = slice_set c.threads i t; history = slice_set c.history i h }

  pub put_same : (c : State F) (i : ℕ) (t : CompactThread F) (h : List Called) → slice_get c.history i ≡ Some h → put c i t ≡ put_with c i t h
  put_same c i t h e = ap (λ (r : List (List Called)). record (put c i t) { history = r }) (sym (set_here c.history i h e))

  pub in_put : (c : State F) (phase : Phase F) (j : ℕ) (t : CompactThread F) (h : List Called) → (IsHolder phase j → ⊥) → update (in_phase c phase) j (thread_view h t) ≡ in_phase (put_with c j t h) phase
  in_put c Free j t h n = rw (threads_set c.history c.threads j h t) refl
  in_put c (Open s) j t h n =
      rw (threads_set c.history c.threads j h t, set_set_other (thread_views c.history c.threads) s.holder j _ (thread_view h t) n) refl

  pub shaped_put : (c : State F) (j : ℕ) (t : CompactThread F) (h : List Called) → IsShaped c → IsShaped (put_with c j t h)
  shaped_put c j t h s = length-set c.history j h ∙ (s ∙ sym (length-set c.threads j t))

  pub fits_put : (P : Program F) (c : State F) (phase : Phase F) (j : ℕ) (t : CompactThread F) (h : List Called) → (IsHolder phase j → ⊥) → Fits P c phase → Fits P (put_with c j t h) phase
  fits_put P c Free j t h n s = shaped_put c j t h s
  fits_put P c (Open s) j t h n o =
      record {
        shaped = shaped_put c j t h o.shaped;
        begun = get_set_other c.history j s.holder h (λ e. n (sym e)) ∙ o.begun;
        at = get_set_other c.threads j s.holder t (λ e. n (sym e)) ∙ o.at;
        running = o.running;
        empty = o.empty;
        locked = o.locked;
      }

  pub step_call : (P : Program F) (c : State F) (i : ℕ) (t : CompactThread F) (k : CallKind) → slice_get c.threads i ≡ Some t → t.core ≡ Resting → next_call P c i ≡ Some k
      → step P c (Exec i) ≡ Some (put_with c i (record t { core = Executing (P.start k) }) (calls_in c.history i ++ begun_call k c.history ∷ []))
  step_call P c i t k at idle found = rw (at, idle, found) refl

  pub step_reg : (P : Program F) (c : State F) (i : ℕ) (t : CompactThread F) (f g : F) → slice_get c.threads i ≡ Some t → t.core ≡ Executing f → P.next f ≡ Silent g
      → step P c (Exec i) ≡ Some (put c i (record t { core = Executing g }))
  step_reg P c i t f g at running next = rw (at, running, next) refl

  pub step_read : (P : Program F) (c : State F) (i : ℕ) (t : CompactThread F) (f : F) (p : ℕ) (k : ℕ → F) → slice_get c.threads i ≡ Some t → t.core ≡ Executing f → P.next f ≡ Load p k
      → step P c (Exec i) ≡ Some (put c i (record t { core = Executing (k (word_seen t.buffer c.memory p)) }))
  step_read P c i t f p k at running next = rw (at, running, next) refl

  pub step_write : (P : Program F) (c : State F) (i : ℕ) (t : CompactThread F) (f : F) (p v : ℕ) (g : F) → slice_get c.threads i ≡ Some t → t.core ≡ Executing f → P.next f ≡ Store p v g
      → step P c (Exec i) ≡ Some (put c i (record t { core = Executing g; buffer = t.buffer ++ (p, v) ∷ [] }))
  step_write P c i t f p v g at running next = rw (at, running, next) refl

  pub step_fence : (P : Program F) (c : State F) (i : ℕ) (t : CompactThread F) (f g : F) → slice_get c.threads i ≡ Some t → t.core ≡ Executing f → P.next f ≡ Barrier g → t.buffer ≡ []
      → step P c (Exec i) ≡ Some (put c i (record t { core = Executing g }))
  step_fence P c i t f g at running next empty = rw (at, running, next, empty) refl

  pub step_locked : (P : Program F) (c : State F) (i : ℕ) (t : CompactThread F) (f : F) (p : ℕ) (n : ℕ → ℕ) (k : ℕ → F) → slice_get c.threads i ≡ Some t → t.core ≡ Executing f → P.next f ≡ Locked p n k → t.buffer ≡ []
      → step P c (Exec i) ≡ Some (record { memory = slice_set c.memory p (n (slice_index c.memory p)); history = c.history; threads = slice_set c.threads i (record t { core = Executing (k (slice_index c.memory p)) }) })
  step_locked P c i t f p n k at running next empty = rw (at, running, next, empty) refl

  pub step_return : (P : Program F) (c : State F) (i : ℕ) (t : CompactThread F) (f : F) (a : Answer) → slice_get c.threads i ≡ Some t → t.core ≡ Executing f → P.next f ≡ Ret a
      → step P c (Exec i) ≡ Some (put_with c i (record t { core = Resting }) (answered a (calls_in c.history i)))
  step_return P c i t f a at running next = rw (at, running, next) refl

  pub step_fault : (P : Program F) (c : State F) (i : ℕ) (t : CompactThread F) (f : F) (n : FaultKind) → slice_get c.threads i ≡ Some t → t.core ≡ Executing f → P.next f ≡ Fail n
      → step P c (Exec i) ≡ Some (put c i (record t { core = Halted }))
  step_fault P c i t f n at running next = rw (at, running, next) refl

  pub step_drain : (P : Program F) (c : State F) (i : ℕ) (t : CompactThread F) (p v : ℕ) (rest : List (ℕ × ℕ)) → slice_get c.threads i ≡ Some t → t.buffer ≡ (p, v) ∷ rest
      → step P c (Drains i) ≡ Some (record { memory = slice_set c.memory p v; history = c.history; threads = slice_set c.threads i (record t { buffer = rest }) })
  step_drain P c i t p v rest at entry = rw (at, entry) refl

  moved : (P : Program F) (c : State F) (phase : Phase F) (j : ℕ) (k : Kind) (u : CompactThread F) (h : List Called) (v : Thread F)
      → Fits P c phase → (IsHolder phase j → ⊥) → step P c (Exec j) ≡ Some (put_with c j u h) → v ≡ thread_view h u
      → slice_set c.history j h ≡ after_label c.history (By j k) → Matched P c (By j k) (update (in_phase c phase) j v)
  moved P c phase j k u h v fits n e same after =
      record {
        actors = Exec j ∷ [];
        state = put_with c j u h;
        steps = (put_with c j u h, e, refl);
        phase = phase;
        fits = fits_put P c phase j u h n fits;
        machine = ap (λ w. update (in_phase c phase) j w) same ∙ in_put c phase j u h n;
        same = after;
      }

  -- while a section is open, the other threads are blocked
  blocked : (c : State F) (s : Section F) (j : ℕ) → (s.holder ≡ j → ⊥) → Unblocked (in_phase c (Open s)) j → ⊥
  blocked c s j n = elim [ inl e ↦ none-some s.holder (sym e) | inr e ↦ n (same_Some s.holder j e) ]

  -- the same where no call begins or returns
  plain : (P : Program F) (c : State F) (phase : Phase F) (j : ℕ) (k : Kind) (u : CompactThread F) (h : List Called) (v : Thread F)
      → Fits P c phase → (IsHolder phase j → ⊥) → slice_get c.history j ≡ Some h → step P c (Exec j) ≡ Some (put c j u) → v ≡ thread_view h u
      → after_label c.history (By j k) ≡ c.history → Matched P c (By j k) (update (in_phase c phase) j v)
  plain P c phase j k u h v fits n begun e same after =
      moved P c phase j k u h v fits n (e ∙ ap Some (put_same c j u h begun)) same (set_here c.history j h begun ∙ sym after)

  local_read : (P : Program F) (c : State F) (phase : Phase F) (j : ℕ) (t : CompactThread F) (h : List Called) (f : F) (p : ℕ) (k : ℕ → F)
      → Fits P c phase → (IsHolder phase j → ⊥) → slice_get c.history j ≡ Some h → slice_get c.threads j ≡ Some t → core_of t.core ≡ Running f Outside → P.next f ≡ Load p k → Unblocked (in_phase c phase) j
      → Matched P c (By j (Read p (word_seen t.buffer (in_phase c phase).memory p))) (update (in_phase c phase) j (record (thread_view h t) { core = Running (k (word_seen t.buffer (in_phase c phase).memory p)) Outside }))
  local_read P c Free j t h f p k fits n begun at running next free =
      let u : CompactThread F = record t { core = Executing (k (word_seen t.buffer c.memory p)) } in
      plain P c Free j (Read p (word_seen t.buffer c.memory p)) u h _ fits n begun (step_read P c j t f p k at (core_running t.core f Outside running).0 next) refl refl
  local_read P c (Open s) j t h f p k fits n begun at running next free = absurd (blocked c s j n free)

  local_drain : (P : Program F) (c : State F) (phase : Phase F) (j : ℕ) (t : CompactThread F) (h : List Called) (p v : ℕ) (rest : List (ℕ × ℕ))
      → Fits P c phase → (IsHolder phase j → ⊥) → slice_get c.history j ≡ Some h → slice_get c.threads j ≡ Some t → t.buffer ≡ (p, v) ∷ rest → Unblocked (in_phase c phase) j
      → Matched P c (By j (Drain p v)) (record (in_phase c phase) { memory = slice_set (in_phase c phase).memory p v; threads = slice_set (in_phase c phase).threads j (record (thread_view h t) { buffer = rest }) })
  local_drain P c Free j t h p v rest fits n begun at entry free =
      let u : CompactThread F = record t { buffer = rest } in
      let d : State F = record { memory = slice_set c.memory p v; history = c.history; threads = slice_set c.threads j u } in
      record {
        actors = Drains j ∷ [];
        state = d;
        steps = (d, step_drain P c j t p v rest at entry, refl);
        phase = Free;
        fits = fits ∙ sym (length-set c.threads j u);
        machine = rw (threads_put c.history c.threads j h u begun) refl;
        same = refl;
      }
  local_drain P c (Open s) j t h p v rest fits n begun at entry free = absurd (blocked c s j n free)

  local_lock : (P : Program F) (c : State F) (phase : Phase F) (j : ℕ) (t : CompactThread F) (h : List Called) (f : F) (p : ℕ) (w : ℕ → ℕ) (k : ℕ → F)
      → Fits P c phase → (IsHolder phase j → ⊥) → slice_get c.history j ≡ Some h → slice_get c.threads j ≡ Some t → core_of t.core ≡ Running f Outside → P.next f ≡ Locked p w k → (in_phase c phase).lock ≡ None → t.buffer ≡ []
      → Matched P c (By j Lock) (record (in_phase c phase) { lock = Some j; threads = slice_set (in_phase c phase).threads j (record (thread_view h t) { core = Running f HasLock }) })
  local_lock P c Free j t h f p w k fits n begun at running next free empty =
      record {
        actors = [];
        state = c;
        steps = refl;
        phase = Open (record { holder = j; thread = t; calls = h; frame = f; place = p; new = w; after = k; part = TookLock });
        fits = record { shaped = fits; begun = begun; at = at; running = (core_running t.core f Outside running).0; empty = empty; locked = next };
        machine = rw empty refl;
        same = refl;
      }
  local_lock P c (Open s) j t h f p w k fits n begun at running next free empty = absurd (none-some s.holder (sym free))

  calls_here : (c : State F) (i : ℕ) (h : List Called) → slice_get c.history i ≡ Some h → calls_in c.history i ≡ h
  calls_here c i h e = get_or_from_slice_get c.history i h [] e

  -- a label of a thread that is in no locked instruction
  pub local : (P : Program F) (c : State F) (phase : Phase F) (j : ℕ) (t : CompactThread F) (h : List Called)
      → Fits P c phase → (IsHolder phase j → ⊥) → slice_get c.history j ≡ Some h → slice_get c.threads j ≡ Some t
      → {k : Kind} {m' : Machine F} → Rule P (in_phase c phase) j (thread_view h t) k m' → Matched P c (By j k) m'
  local P c phase j t h fits n begun at (call k idle found) =
      let u : CompactThread F = record t { core = Executing (P.start k) } in
      let same = calls_here c j h begun in
      moved P c phase j (Call k) u (calls_in c.history j ++ begun_call k c.history ∷ []) _ fits n (step_call P c j t k at (core_rest t.core idle) (sym (next_same P c phase j (length h) fits (ap length same)) ∙ found)) (rw (length_begun (calls_in c.history j) (begun_call k c.history), same) refl) refl
  local P c phase j t h fits n begun at (reg f g running next) =
      plain P c phase j Reg (record t { core = Executing g }) h _ fits n begun (step_reg P c j t f g at (core_running t.core f Outside running).0 next) refl refl
  local P c phase j t h fits n begun at (read f p k running next free) = local_read P c phase j t h f p k fits n begun at running next free
  local P c phase j t h fits n begun at (write f p v g running next) =
      plain P c phase j (Write p v) (record t { core = Executing g; buffer = t.buffer ++ (p, v) ∷ [] }) h _ fits n begun (step_write P c j t f p v g at (core_running t.core f Outside running).0 next) refl refl
  local P c phase j t h fits n begun at (drain p v rest entry free) = local_drain P c phase j t h p v rest fits n begun at entry free
  local P c phase j t h fits n begun at (fence f g running next empty) =
      plain P c phase j Fence (record t { core = Executing g }) h _ fits n begun (step_fence P c j t f g at (core_running t.core f Outside running).0 next empty) refl refl
  local P c phase j t h fits n begun at (lock f p w k running next free empty) = local_lock P c phase j t h f p w k fits n begun at running next free empty
  local P c phase j t h fits n begun at (read_locked f p w k running next free) = let x = (core_running t.core f HasLock running).1 in cc
  local P c phase j t h fits n begun at (write_locked f p w k old running next) = let x = (core_running t.core f (HasRead old) running).1 in cc
  local P c phase j t h fits n begun at (unlock f p w k old running next held empty) = let x = (core_running t.core f (HasWritten old) running).1 in cc
  local P c phase j t h fits n begun at (return f a running next) =
      let u : CompactThread F = record t { core = Resting } in
      let same = calls_here c j h begun in
      moved P c phase j (Return a) u (answered a (calls_in c.history j)) _ fits n (step_return P c j t f a at (core_running t.core f Outside running).0 next) (rw (length_answered a (calls_in c.history j), same) refl) refl
  local P c phase j t h fits n begun at (fault f w running next) =
      plain P c phase j (Fault w) (record t { core = Halted }) h _ fits n begun (step_fault P c j t f w at (core_running t.core f Outside running).0 next) refl refl
