-- A thread's two actors: where both have a step, the two steps commute.
use Rattle.std.proofs.Common.{◌≡◌, ℕ, ◌<◌, ◌==◌, if◌then◌else◌, List, [], ◌∷◌, length, get_or, set, Option, Some, None, refl, ap, ◌∙◌, subst, arith}
use Rattle.std.specs.List.{slice_get}
use Rattle.std.specs.Option.{option_and_then}
use Rattle.std.proofs.lemmas.Grind.{get_or-set_at}
use Rattle.std.proofs.lemmas.List.{set-set, get_or-set_other}
use Rattle.std.proofs.lemmas.Option.{none-some, same_Some, option_and_then_some}
use Rattle.tso_model.specs.Programs.{CallKind, Program}
use Rattle.tso_model.specs.Prologue.{next_call}
use Rattle.tso_model.specs.States.{Buffer, CompactCore, Log, State, CompactThread}
use Rattle.tso_model.specs.Steps.{Drains, Exec, Move, Write, core_move, drain_move, memory_after, move, perform, word_read}
use Rattle.tso_model.specs.WellFormed.{Within}
use Rattle.tso_model.proofs.Places.{get_set_same}
use Rattle.tso_model.proofs.Waits.{next_own}

drained_word : (m : List ℕ) (q w p : ℕ) → q < length m → (if q == p then w else get_or m p 0) ≡ get_or (set m q w) p 0
drained_word m q w p h = grind (arith, get_or-set_at, get_or-set_other)

pub state_eq : {F : Type 0} (s t : State F) → s.memory ≡ t.memory → s.threads ≡ t.threads → s.history ≡ t.history → s ≡ t
state_eq s t a b c = λ i. record { memory = a i; threads = b i; history = c i }

-- each buffered place is one of the memory's
abbrev pub InRange : {F : Type 0} → State F → Type 0
InRange {F} s = (i : ℕ) (t : CompactThread F) → slice_get s.threads i ≡ Some t → Within (length s.memory) t.buffer

-- both of a thread's actors have moves: each is there after the other, with the same access and entry, and both orders end alike
pub record OwnDiamond {F : Type 0} (p : Program F) (s : State F) (i : ℕ) (exec drain : Move F) : Type 0 where
  pub exec' : Move F
  pub drain' : Move F
  pub exec_moves : move p (perform s i drain) (Exec i) ≡ Some exec'
  pub drain_moves : move p (perform s i exec) (Drains i) ≡ Some drain'
  pub exec_access : exec'.access ≡ exec.access
  pub exec_log : exec'.log ≡ exec.log
  pub drain_access : drain'.access ≡ drain.access
  pub drain_log : drain'.log ≡ drain.log
  pub meet : perform (perform s i drain) i exec' ≡ perform (perform s i exec) i drain'

some_of : {X : Type 0} (o : Option X) → (o ≡ None → ⊥) → (x : X) × (o ≡ Some x)
some_of None n = absurd (n refl)
some_of (Some x) n = (x, refl)

-- m is a core's move while e is its oldest entry
module _ {F : Type 0} (p : Program F) (call : Option CallKind) (c : CompactCore F) (e : ℕ × ℕ) (rest : Buffer) (m : Move F) (q : core_move p call c (e ∷ rest) ≡ Some m) where
  core_goes : core_move p call c rest ≡ None → ⊥
  core_goes r = grind arith

  core_same : (m' : Move F) → core_move p call c rest ≡ Some m' → (m'.access ≡ m.access) × (m'.log ≡ m.log)
  core_same m' r = grind arith

  core_writes_none : (memory : List ℕ) → memory_after memory m.access ≡ memory
  core_writes_none memory = grind arith

  core_drains : (w : ℕ) → drain_move (m.after w).core (m.after w).buffer ≡ None → ⊥
  core_drains w r = grind arith

  core_drain : (w : ℕ) (d : Move F) → drain_move (m.after w).core (m.after w).buffer ≡ Some d → (d.access ≡ Write e.0 e.1) × (d.log ≡ Log.Same)
  core_drain w d r = grind arith

  core_meets : (m' d : Move F) (memory : List ℕ) (w : ℕ) → core_move p call c rest ≡ Some m' → e.0 < length memory →
      drain_move (m.after (word_read memory m.access)).core (m.after (word_read memory m.access)).buffer ≡ Some d →
      m'.after (word_read (set memory e.0 e.1) m'.access) ≡ d.after w
  core_meets m' d memory w q' h r = grind (arith, drained_word)

module _ {F : Type 0} (p : Program F) (s : State F) (i : ℕ) where
  move_at : (u : State F) (t : CompactThread F) (m : Move F) → slice_get u.threads i ≡ Some t → core_move p (next_call p u i) t.core t.buffer ≡ Some m → move p u (Exec i) ≡ Some m
  move_at u t m at e = ap (λ (o : Option (CompactThread F)). option_and_then (λ th. core_move p (next_call p u i) th.core th.buffer) o) at ∙ e

  diamond_at : (c : CompactCore F) (e : ℕ × ℕ) (rest : Buffer) (m : Move F) → slice_get s.threads i ≡ Some (record { core = c; buffer = e ∷ rest }) → e.0 < length s.memory →
      core_move p (next_call p s i) c (e ∷ rest) ≡ Some m →
      OwnDiamond p s i m (record { access = Write e.0 e.1; after = λ w. record { core = c; buffer = rest }; log = Log.Same })
  diamond_at c e rest m at h q =
      let call : Option CallKind = next_call p s i in
      let t1 : CompactThread F = record { core = c; buffer = rest } in
      let drained : Move F = record { access = Write e.0 e.1; after = λ w. record { core = c; buffer = rest }; log = Log.Same } in
      let t2 : CompactThread F = m.after (word_read s.memory m.access) in
      let (m', q') = some_of (core_move p call c rest) (core_goes p call c e rest m q) in
      let (d, r) = some_of (drain_move t2.core t2.buffer) (core_drains p call c e rest m q (word_read s.memory m.access)) in
      let (access, log) = core_same p call c e rest m q m' q' in
      let (d_access, d_log) = core_drain p call c e rest m q (word_read s.memory m.access) d r in
      let none = core_writes_none p call c e rest m q in
      let there1 : slice_get (set s.threads i t1) i ≡ Some t1 = get_set_same s.threads i _ t1 at in
      let there2 : slice_get (set s.threads i t2) i ≡ Some t2 = get_set_same s.threads i _ t2 at in
      record {
        exec' = m';
        drain' = d;
        exec_moves = move_at (perform s i drained) t1 m' there1 (ap (λ o. core_move p o c rest) (next_own p s i drained refl) ∙ q');
        drain_moves = rw there2 r;
        exec_access = access;
        exec_log = log;
        drain_access = d_access;
        drain_log = d_log;
        meet = state_eq _ _ (rw (access, none (set s.memory e.0 e.1), d_access, none s.memory) refl)
            (rw (set-set s.threads i t1 (m'.after (word_read (set s.memory e.0 e.1) m'.access)), set-set s.threads i t2 (d.after (word_read (memory_after s.memory m.access) d.access)))
            (ap (set s.threads i) (core_meets p call c e rest m q m' d s.memory (word_read (memory_after s.memory m.access) d.access) q' h r)))
            (rw (log, d_log) refl);
      }

  pub own_diamond : (exec drain : Move F) → move p s (Exec i) ≡ Some exec → move p s (Drains i) ≡ Some drain → InRange s → OwnDiamond p s i exec drain
  own_diamond exec drain qe qd within = option_and_then_some _ (slice_get s.threads i) exec qe (λ t here is. go t.core t.buffer here is (rw here at qd))
    where
      go : (c : CompactCore F) (b : Buffer) → slice_get s.threads i ≡ Some (record { core = c; buffer = b }) →
          core_move p (next_call p s i) c b ≡ Some exec → drain_move c b ≡ Some drain → OwnDiamond p s i exec drain
      go c [] at e d = absurd (none-some drain d)
      go c (x ∷ rest) at e d = subst (λ y. OwnDiamond p s i exec y) (same_Some _ _ d) (diamond_at c x rest exec at (within i _ at).0 e)
