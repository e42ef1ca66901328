-- What the rules mean, over steps and over runs.
use Rattle.std.proofs.Common.{◌≡◌, ◌≢◌, ◌⊎◌, ◌==◌, if◌then◌else◌, ℕ, zero, suc, Bool, true, false, List, [], ◌∷◌, ◌++◌, map, slice_get, slice_set, take, refl, sym, ◌∙◌, ap, subst, append_assoc, Option, Some, None, inl, inr}
use Rattle.std.proofs.Math.Decide.{ℕ_discrete}
use Rattle.std.proofs.lemmas.Bool.Decides.{eqb_tells}
use Rattle.std.proofs.lemmas.Bool.{eq-eqb, ne_eqb}
use Rattle.std.proofs.lemmas.List.{append-nil}
use Rattle.std.proofs.lemmas.Option.{none-some, same_Some}
use Rattle.tso_model.specs.Events.{events_of, kinds_of}
use Rattle.tso_model.specs.Labels.{By, Call, Core, Drain, Fault, Fence, Idle, Kind, Label, Lock, Machine, Read, Reg, Return, Rule, Run, Running, Stopped, Thread, Unblocked, Unlock, Write, call, drain, fault, fence, first_machine, is_idle, is_over_in, lock, next_call_in, read, read_locked, reg, return, unlock, write, write_locked}
use Rattle.tso_model.specs.Meaning.{BlockedThreadsWait, BuffersAreQueues, CallsComeInOrder, CallsWaitForPrologue, FencesWait, IsNewest, MemoryIsStored, NoneFor, ReadsAreNewest, WaitsForBuffer, WaitsForLock, all_drained, all_stored, all_written, drained, entry_drained, entry_written, stored, written}
use Rattle.tso_model.specs.Programs.{CallKind, Program, calls_of}
use Rattle.tso_model.specs.Prologue.{call_if, is_over, may_begin}
use Rattle.tso_model.specs.States.{Buffer, latest, word_seen}
use Rattle.tso_model.proofs.Begin.{next_in_calls}
use Rattle.tso_model.proofs.Places.{get_set_other, get_set_same}

-- LISTS

here : {A : Type 0} (j i : ℕ) (xs : List A) → j ≡ i → ◌≡◌ {A = List A} (if j == i then xs else []) xs
here j i xs e = rw (eq-eqb j i e) refl

away : {A : Type 0} (j i : ℕ) (xs : List A) → j ≢ i → ◌≡◌ {A = List A} (if j == i then xs else []) []
away j i xs n = rw (ne_eqb j i n) refl

take_next : {A : Type 0} (xs : List A) (n : ℕ) (x : A) → slice_get xs n ≡ Some x → take (suc n) xs ≡ take n xs ++ x ∷ []
take_next [] n x e = absurd (none-some x e)
take_next {A} (y ∷ xs) zero x e = ap {B = List A} (λ r. r ∷ []) (same_Some y x e)
take_next {A} (y ∷ xs) (suc n) x e = ap {B = List A} (λ r. y ∷ r) (take_next xs n x e)

take_none : {A : Type 0} (xs : List A) → take 0 xs ≡ []
take_none [] = refl
take_none (x ∷ xs) = refl

-- the four lists of two labels, one after another
joins : (b w r d e u v : Buffer) → b ++ w ≡ d ++ u → u ++ r ≡ e ++ v → b ++ (w ++ r) ≡ (d ++ e) ++ v
joins b w r d e u v x y =
    sym (append_assoc b w r) ∙ (ap (λ l. l ++ r) x ∙ (append_assoc d u r ∙ (ap (λ l. d ++ l) y ∙ sym (append_assoc d e v))))

-- THE NEWEST ENTRY

-- v is the word of the newest entry for p, or there is none and v is w
abbrev Newest : Buffer → ℕ → ℕ → ℕ → Type 0
Newest b p w v = ((older newer : Buffer) × (b ≡ older ++ (p, v) ∷ newer) × NoneFor p newer) ⊎ (NoneFor p b × (v ≡ w))

newest_last : (e : ℕ × ℕ) (rest : Buffer) (p w v : ℕ) → NoneFor p rest → v ≡ (if e.0 == p then e.1 else w) → Dec (e.0 ≡ p) → Newest (e ∷ rest) p w v
newest_last e rest p w v none is (yes q) =
    let same : v ≡ e.1 = is ∙ rw (eq-eqb e.0 p q) refl in
    let pair : ◌≡◌ {A = ℕ × ℕ} e (p, v) = λ i. (q i, sym same i) in
    inl ([], rest, ap {B = Buffer} (λ x. x ∷ rest) pair, none)
newest_last e rest p w v none is (no n) = inr ((n, none), is ∙ rw (ne_eqb e.0 p n) refl)

newest_onto : (e : ℕ × ℕ) (rest : Buffer) (p w v : ℕ) → Newest rest p (if e.0 == p then e.1 else w) v → Newest (e ∷ rest) p w v
newest_onto e rest p w v (inl (older, newer, is, none)) = inl (e ∷ older, newer, ap {B = Buffer} (λ x. e ∷ x) is, none)
newest_onto e rest p w v (inr (none, is)) = newest_last e rest p w v none is (ℕ_discrete e.0 p)

newest : (b : Buffer) (p w : ℕ) → Newest b p w (latest b p w)
newest [] p w = inr (tt, refl)
newest (e ∷ rest) p w = newest_onto e rest p w _ (newest rest p (if e.0 == p then e.1 else w))

-- ONE LABEL

-- the call that begins, if one does
begins : Kind → List CallKind
begins (Call c) = c ∷ []
begins _ = []

if_nil : {A : Type 0} (j i : ℕ) (rest : List A) → (if j == i then [] else []) ++ rest ≡ rest
if_nil j i rest = elim (eqb_tells j i) [ inl x ↦ rw x.0 refl | inr x ↦ rw x.0 refl ]

kinds_first : (j : ℕ) (k : Kind) (ls : List Label) (i : ℕ) → kinds_of i (events_of (By j k ∷ ls)) ≡ (if j == i then begins k else []) ++ kinds_of i (events_of ls)
unfolding begins
kinds_first j (Call c) ls i = refl
kinds_first j Reg ls i = sym (if_nil j i (kinds_of i (events_of ls)))
kinds_first j (Read p v) ls i = sym (if_nil j i (kinds_of i (events_of ls)))
kinds_first j (Write p v) ls i = sym (if_nil j i (kinds_of i (events_of ls)))
kinds_first j (Drain p v) ls i = sym (if_nil j i (kinds_of i (events_of ls)))
kinds_first j Fence ls i = sym (if_nil j i (kinds_of i (events_of ls)))
kinds_first j Lock ls i = sym (if_nil j i (kinds_of i (events_of ls)))
kinds_first j Unlock ls i = sym (if_nil j i (kinds_of i (events_of ls)))
kinds_first j (Return a) ls i = sym (if_nil j i (kinds_of i (events_of ls)))
kinds_first j (Fault n) ls i = sym (if_nil j i (kinds_of i (events_of ls)))

may_call : (b : Bool) (o : Option CallKind) (k : CallKind) → call_if b o ≡ Some k → b ≡ true
may_call true o k e = refl
may_call false o k e = absurd (none-some k e)

module _ {F : Type 0} where
  -- a thread before and after what happened: its buffer is a queue, and its calls come in order
  record Tracked (P : Program F) (i : ℕ) (t u : Thread F) (ins outs : Buffer) (calls : List CallKind) : Type 0 where
    buffer : t.buffer ++ ins ≡ outs ++ u.buffer
    begun : take u.begun (calls_of P i) ≡ take t.begun (calls_of P i) ++ calls

  unmoved : (P : Program F) (i : ℕ) (t : Thread F) → Tracked P i t t [] [] []
  unmoved P i t = record { buffer = append-nil t.buffer; begun = sym (append-nil _) }

  record Moved (P : Program F) (m : Machine F) (i : ℕ) (t : Thread F) (k : Kind) (m' : Machine F) : Type 0 where
    thread : Thread F
    threads : m'.threads ≡ slice_set m.threads i thread
    tracked : Tracked P i t thread (entry_written k) (entry_drained k) (begins k)
    memory : m'.memory ≡ stored m.memory (By i k)

  plain : (P : Program F) (i : ℕ) (t : Thread F) (core : Core F) → Tracked P i t (record t { core = core }) [] [] []
  plain P i t core = record { buffer = append-nil t.buffer; begun = sym (append-nil _) }

  more : (P : Program F) (i : ℕ) (t : Thread F) (core : Core F) (p v : ℕ) → Tracked P i t (record t { core = core; buffer = t.buffer ++ (p, v) ∷ [] }) ((p, v) ∷ []) [] []
  more P i t core p v = record { buffer = refl; begun = sym (append-nil _) }

  moved : (P : Program F) (m : Machine F) (i : ℕ) (t : Thread F) {k : Kind} {m' : Machine F} → Rule P m i t k m' → Moved P m i t k m'
  unfolding begins
  moved P m i t (call k idle found) = record { thread = _; threads = refl; tracked = record { buffer = append-nil t.buffer; begun = take_next (calls_of P i) t.begun k (next_in_calls P m i t.begun k found) }; memory = refl }
  moved P m i t (reg f g running next) = record { thread = _; threads = refl; tracked = plain P i t _; memory = refl }
  moved P m i t (read f p k running next free) = record { thread = _; threads = refl; tracked = plain P i t _; memory = refl }
  moved P m i t (write f p v g running next) = record { thread = _; threads = refl; tracked = more P i t _ p v; memory = refl }
  moved P m i t (drain p v rest entry free) = record { thread = _; threads = refl; tracked = record { buffer = append-nil t.buffer ∙ entry; begun = sym (append-nil _) }; memory = refl }
  moved P m i t (fence f g running next empty) = record { thread = _; threads = refl; tracked = plain P i t _; memory = refl }
  moved P m i t (lock f p n k running next free empty) = record { thread = _; threads = refl; tracked = plain P i t _; memory = refl }
  moved P m i t (read_locked f p n k running next free) = record { thread = _; threads = refl; tracked = plain P i t _; memory = refl }
  moved P m i t (write_locked f p n k old running next) = record { thread = _; threads = refl; tracked = more P i t _ p (n old); memory = refl }
  moved P m i t (unlock f p n k old running next held empty) = record { thread = _; threads = refl; tracked = plain P i t _; memory = refl }
  moved P m i t (return f a running next) = record { thread = _; threads = refl; tracked = plain P i t _; memory = refl }
  moved P m i t (fault f n running next) = record { thread = _; threads = refl; tracked = plain P i t _; memory = refl }

  pub memory_is_stored : MemoryIsStored F
  memory_is_stored P m m' [] r = ap (λ (n : Machine F). n.memory) r
  memory_is_stored P m m' (By j k ∷ ls) (mid, (t, at, rule), rest) =
      memory_is_stored P mid m' ls rest ∙ ap (λ x. all_stored x ls) (moved P m j t rule).memory

  -- thread i, whoever moved
  Goes : (P : Program F) (m m' : Machine F) (ls : List Label) (i : ℕ) (t : Thread F) → Type 0
  Goes P m m' ls i t = (u : Thread F) × (slice_get m'.threads i ≡ Some u) × Tracked P i t u (all_written i ls) (all_drained i ls) (kinds_of i (events_of ls))

  Goes_one : (P : Program F) (m' : Machine F) (j : ℕ) (k : Kind) (i : ℕ) (t : Thread F) → Type 0
  Goes_one P m' j k i t = (u : Thread F) × (slice_get m'.threads i ≡ Some u) × Tracked P i t u (written i (By j k)) (drained i (By j k)) (if j == i then begins k else [])

  goes_one : (P : Program F) (m m' : Machine F) (j : ℕ) (k : Kind) (i : ℕ) (t v : Thread F) → slice_get m.threads j ≡ Some v → slice_get m.threads i ≡ Some t → Moved P m j v k m' → Dec (j ≡ i) → Goes_one P m' j k i t
  unfolding Goes_one
  goes_one P m m' j k i t v at there x (yes e) =
      let Q : Type 0 = (u : Thread F) × (slice_get m'.threads j ≡ Some u) × Tracked P j v u (written j (By j k)) (drained j (By j k)) (if j == j then begins k else []) in
      let got : slice_get m'.threads j ≡ Some x.thread = rw x.threads (get_set_same m.threads j v x.thread at) in
      let own : Tracked P j v x.thread (written j (By j k)) (drained j (By j k)) (if j == j then begins k else []) = rw (here j j (entry_written k) refl, here j j (entry_drained k) refl, here j j (begins k) refl) x.tracked in
      let same : v ≡ t = same_Some v t (sym at ∙ subst (λ n. slice_get m.threads n ≡ Some t) (sym e) there) in
      let R : ℕ → Thread F → Type 0 = λ n w. (u : Thread F) × (slice_get m'.threads n ≡ Some u) × Tracked P n w u (written n (By j k)) (drained n (By j k)) (if j == n then begins k else []) in
      subst (λ n. R n t) e (subst (R j) same (x.thread, got, own))
  goes_one P m m' j k i t v at there x (no n) =
      (t, rw x.threads (get_set_other m.threads j i x.thread n ∙ there), rw (away j i (entry_written k) n, away j i (entry_drained k) n, away j i (begins k) n) (unmoved P i t))

  goes : (P : Program F) (m m' : Machine F) (ls : List Label) (i : ℕ) (t : Thread F) → Run P m ls m' → slice_get m.threads i ≡ Some t → Goes P m m' ls i t
  unfolding Goes Goes_one
  goes P m m' [] i t r at = (t, subst (λ (n : Machine F). slice_get n.threads i ≡ Some t) (sym r) at, unmoved P i t)
  goes P m m' (By j k ∷ ls) i t (mid, (v, there, rule), rest) at =
      let x = goes_one P m mid j k i t v there at (moved P m j v rule) (ℕ_discrete j i) in
      let y = goes P mid m' ls i x.0 rest x.1 in (
        y.0,
        y.1,
        record {
          buffer = joins t.buffer (written i (By j k)) (all_written i ls) (drained i (By j k)) (all_drained i ls) x.0.buffer y.0.buffer x.2.buffer y.2.buffer;
          begun = y.2.begun ∙ (ap (λ l. l ++ kinds_of i (events_of ls)) x.2.begun ∙ (append_assoc (take t.begun (calls_of P i)) (if j == i then begins k else []) (kinds_of i (events_of ls)) ∙ ap (λ l. take t.begun (calls_of P i) ++ l) (sym (kinds_first j k ls i))));
        },
      )

  pub buffers_are_queues : BuffersAreQueues F
  unfolding Goes
  buffers_are_queues P m m' ls i t run at = let x = goes P m m' ls i t run at in (x.0, x.1, x.2.buffer)

  none_begun : (kss : List (List CallKind)) (i : ℕ) (t : Thread F) → slice_get (map (λ ks. record { begun = 0; core = Idle; buffer = [] }) kss) i ≡ Some t → t.begun ≡ 0
  none_begun [] i t e = absurd (none-some t e)
  none_begun (k ∷ kss) zero t e = ap (λ (u : Thread F). u.begun) (sym (same_Some _ t e))
  none_begun (k ∷ kss) (suc i) t e = none_begun kss i t e

  -- no thread comes in
  before : (P : Program F) (m mid : Machine F) (j i : ℕ) (k : Kind) (v u : Thread F) → slice_get m.threads j ≡ Some v → Moved P m j v k mid → slice_get mid.threads i ≡ Some u → Dec (j ≡ i) → (w : Thread F) × (slice_get m.threads i ≡ Some w)
  before P m mid j i k v u there x at (yes q) = (v, subst (λ n. slice_get m.threads n ≡ Some v) q there)
  before P m mid j i k v u there x at (no n) = (u, sym (get_set_other m.threads j i x.thread n) ∙ (rw x.threads at at))

  thread_before : (P : Program F) (m m' : Machine F) (ls : List Label) (i : ℕ) (t : Thread F) → Run P m ls m' → slice_get m'.threads i ≡ Some t → (u : Thread F) × (slice_get m.threads i ≡ Some u)
  thread_before P m m' [] i t run at = (t, subst (λ (n : Machine F). slice_get n.threads i ≡ Some t) run at)
  thread_before P m m' (By j k ∷ ls) i t (mid, (v, there, rule), rest) at =
      let u = thread_before P mid m' ls i t rest at in before P m mid j i k v u.0 there (moved P m j v rule) u.1 (ℕ_discrete j i)

  pub calls_come_in_order : CallsComeInOrder F
  unfolding Goes
  calls_come_in_order P memory ls m i t run at =
      let u = thread_before P (first_machine P memory) m ls i t run at in
      let x = goes P (first_machine P memory) m ls i u.0 run u.1 in
      let same : t ≡ x.0 = same_Some t x.0 (sym at ∙ x.1) in
      let zero_begun : u.0.begun ≡ 0 = none_begun P.calls i u.0 u.1 in
      let none : take u.0.begun (calls_of P i) ≡ [] = ap (λ n. take n (calls_of P i)) zero_begun ∙ take_none (calls_of P i) in
      sym (ap (λ (v : Thread F). take v.begun (calls_of P i)) same ∙ (x.2.begun ∙ ap (λ l. l ++ kinds_of i (events_of ls)) none))

  -- READS AND WAITS

  read_word : (P : Program F) (m : Machine F) (i : ℕ) (t : Thread F) (p v : ℕ) {k : Kind} {m' : Machine F} → k ≡ Read p v → Rule P m i t k m' → word_seen t.buffer m.memory p ≡ v
  read_word P m i t p v e (call k idle found) = cc
  read_word P m i t p v e (reg f g running next) = cc
  read_word P m i t p v e (read f q k running next free) = (let same : q ≡ p = cc in let is : word_seen t.buffer m.memory q ≡ v = cc in ap (word_seen t.buffer m.memory) (sym same) ∙ is)
  read_word P m i t p v e (write f q w g running next) = cc
  read_word P m i t p v e (drain q w rest entry free) = cc
  read_word P m i t p v e (fence f g running next empty) = cc
  read_word P m i t p v e (lock f q n k running next free empty) = cc
  read_word P m i t p v e (read_locked f q n k running next free) = (let same : q ≡ p = cc in let is : word_seen t.buffer m.memory q ≡ v = cc in ap (word_seen t.buffer m.memory) (sym same) ∙ is)
  read_word P m i t p v e (write_locked f q n k old running next) = cc
  read_word P m i t p v e (unlock f q n k old running next held empty) = cc
  read_word P m i t p v e (return f a running next) = cc
  read_word P m i t p v e (fault f n running next) = cc

  pub reads_are_newest : ReadsAreNewest F
  reads_are_newest P m m' i p v t (u, here', rule) at =
      let same : u ≡ t = same_Some u t (sym here' ∙ at) in
      let is : word_seen t.buffer m.memory p ≡ v = subst (λ (x : Thread F). word_seen x.buffer m.memory p ≡ v) same (read_word P m i u p v refl rule) in
      subst (IsNewest t.buffer m.memory p) is (newest t.buffer p _)

  drained_first : (P : Program F) (m : Machine F) (i : ℕ) (t : Thread F) {k : Kind} {m' : Machine F} → Rule P m i t k m' → WaitsForBuffer k → t.buffer ≡ []
  drained_first P m i t (call k idle found) w = absurd w
  drained_first P m i t (reg f g running next) w = absurd w
  drained_first P m i t (read f p k running next free) w = absurd w
  drained_first P m i t (write f p v g running next) w = absurd w
  drained_first P m i t (drain p v rest entry free) w = absurd w
  drained_first P m i t (fence f g running next empty) w = empty
  drained_first P m i t (lock f p n k running next free empty) w = empty
  drained_first P m i t (read_locked f p n k running next free) w = absurd w
  drained_first P m i t (write_locked f p n k old running next) w = absurd w
  drained_first P m i t (unlock f p n k old running next held empty) w = empty
  drained_first P m i t (return f a running next) w = absurd w
  drained_first P m i t (fault f n running next) w = absurd w

  pub fences_wait : FencesWait F
  fences_wait P m m' i k t (u, here', rule) w at =
      subst (λ (x : Thread F). x.buffer ≡ []) (same_Some u t (sym here' ∙ at)) (drained_first P m i u rule w)

  not_blocked : (m : Machine F) (i j : ℕ) → m.lock ≡ Some j → Unblocked m i → i ≡ j
  not_blocked m i j held (inl free) = absurd (none-some j (sym free ∙ held))
  not_blocked m i j held (inr own) = same_Some i j (sym own ∙ held)

  holder_only : (P : Program F) (m : Machine F) (i j : ℕ) (t : Thread F) → m.lock ≡ Some j → {k : Kind} {m' : Machine F} → Rule P m i t k m' → WaitsForLock k → i ≡ j
  holder_only P m i j t held (call k idle found) w = absurd w
  holder_only P m i j t held (reg f g running next) w = absurd w
  holder_only P m i j t held (read f p k running next free) w = not_blocked m i j held free
  holder_only P m i j t held (write f p v g running next) w = absurd w
  holder_only P m i j t held (drain p v rest entry free) w = not_blocked m i j held free
  holder_only P m i j t held (fence f g running next empty) w = absurd w
  holder_only P m i j t held (lock f p n k running next free empty) w = absurd (none-some j (sym free ∙ held))
  holder_only P m i j t held (read_locked f p n k running next free) w = not_blocked m i j held free
  holder_only P m i j t held (write_locked f p n k old running next) w = absurd w
  holder_only P m i j t held (unlock f p n k old running next own empty) w = not_blocked m i j held (inr own)
  holder_only P m i j t held (return f a running next) w = absurd w
  holder_only P m i j t held (fault f n running next) w = absurd w

  pub blocked_threads_wait : BlockedThreadsWait F
  blocked_threads_wait P m m' i j k x held w = holder_only P m i j x.0 held x.2 w

  -- CALLS AND THE PROLOGUE

  call_found : (P : Program F) (m : Machine F) (i : ℕ) (t : Thread F) (c : CallKind) {k : Kind} {m' : Machine F} → k ≡ Call c → Rule P m i t k m' → next_call_in P m i t.begun ≡ Some c
  call_found P m i t c e (call k idle found) = (let same : k ≡ c = cc in found ∙ ap Some same)
  call_found P m i t c e (reg f g running next) = cc
  call_found P m i t c e (read f p k running next free) = cc
  call_found P m i t c e (write f p v g running next) = cc
  call_found P m i t c e (drain p v rest entry free) = cc
  call_found P m i t c e (fence f g running next empty) = cc
  call_found P m i t c e (lock f p n k running next free empty) = cc
  call_found P m i t c e (read_locked f p n k running next free) = cc
  call_found P m i t c e (write_locked f p n k old running next) = cc
  call_found P m i t c e (unlock f p n k old running next held empty) = cc
  call_found P m i t c e (return f a running next) = cc
  call_found P m i t c e (fault f n running next) = cc

  all_over : (core : Core F) (o : Option CallKind) (b : Buffer) → is_over (is_idle core) o b ≡ true → (core ≡ Idle) × (o ≡ None) × (b ≡ [])
  all_over Idle None [] e = (refl, refl, refl)
  all_over Idle None (x ∷ b) e = cc
  all_over Idle (Some k) b e = cc
  all_over (Running f st) o b e = cc
  all_over Stopped o b e = cc

  pub calls_wait_for_prologue : CallsWaitForPrologue F
  calls_wait_for_prologue P m m' i j k t x first n at =
      let found = call_found P m i x.0 k refl x.2 in
      let may = may_call (may_begin P.prologue i (λ l. is_over_in P l (slice_get m.threads l))) _ k found in
      let may' : may_begin (Some j) i (λ l. is_over_in P l (slice_get m.threads l)) ≡ true = subst (λ o. may_begin o i (λ l. is_over_in P l (slice_get m.threads l)) ≡ true) first may in
      let over : is_over_in P j (slice_get m.threads j) ≡ true = rw (ne_eqb i j n) at may' in
      all_over t.core (slice_get (calls_of P j) t.begun) t.buffer (subst (λ o. is_over_in P j o ≡ true) at over)
