-- How a run by moves lags behind one by steps: a thread that is still in the opening of a call has not begun that call.
use Rattle.std.proofs.Common.{◌≡◌, ◌≢◌, ℕ, ◌+◌, ◌<◌, ◌≤◌, ◌==◌, if◌then◌else◌, List, [], ◌∷◌, ◌++◌, length, get_or, Option, Some, None, ◌⊎◌, refl, sym, ◌∙◌, ap, subst, arith, inl, inr, Bool, true, false, length-set}
use Rattle.std.specs.List.{slice_get, AllZip}
use Rattle.std.proofs.Math.Nat.{le_refl, le_trans}
use Rattle.std.proofs.lemmas.Bool.{cases_eq}
use Rattle.std.proofs.lemmas.List.Elements.{length_all_zip}
use Rattle.std.proofs.lemmas.Option.{none-some, same_Some, slice_get_within}
use Rattle.tso_model.specs.Accesses.{Writes}
use Rattle.tso_model.specs.Programs.{Answer, CallKind, Program, calls_of}
use Rattle.tso_model.specs.Prologue.{call_if, is_thread_over, may_begin, next_call}
use Rattle.tso_model.specs.Relation.{IsShaped}
use Rattle.tso_model.specs.States.{Answered, Began, Same, Log, Called, Resting, Executing, Buffer, CompactThread, State, answered, begun_by, calls_in, count_answer, logged, returned}
use Rattle.tso_model.specs.Steps.{Exec, Move, Read, perform}
use Rattle.tso_model.specs.Strictness.{CalledAtLeast}
use Rattle.tso_model.proofs.Begin.{call_if_some}
use Rattle.tso_model.proofs.Counts.{length_logged, returned_grows}
use Rattle.tso_model.proofs.History.{calls_other, calls_refl}
use Rattle.tso_model.proofs.Memory.{word_apart}
use Rattle.tso_model.proofs.Moves.{thread_other}
use Rattle.tso_model.proofs.Ordered.{in_same}
use Rattle.tso_model.proofs.Waits.{begins_after, is_over_at, kept_by_others, moving_is_not_over}
use Rattle.tso_crossing.specs.Moves.{Extent, opening, readable}
use Rattle.tso_crossing.proofs.Openings.{Passed, readable_same}

-- LISTS OF CALLS

pub returned_same : (xs ys : List Called) → AllZip CalledAtLeast xs ys → returned xs ≡ returned ys
returned_same [] [] h = refl
returned_same (x ∷ xs) (y ∷ ys) (h, hs) = let e = returned_same xs ys hs in let a = h.answer in cc
returned_same [] (y ∷ ys) h = absurd h
returned_same (x ∷ xs) [] h = absurd h

answered_same : (a : Answer) (xs ys : List Called) → AllZip CalledAtLeast xs ys → AllZip CalledAtLeast (answered a xs) (answered a ys)
answered_same a [] [] h = tt
answered_same a (x ∷ []) (y ∷ []) (h, hs) = (record { kind = h.kind; answer = refl; seen = h.seen }, tt)
answered_same a (x ∷ x' ∷ xs) (y ∷ y' ∷ ys) (h, hs) = (h, answered_same a (x' ∷ xs) (y' ∷ ys) hs)
answered_same a (x ∷ []) (y ∷ y' ∷ ys) (h, hs) = absurd hs
answered_same a (x ∷ x' ∷ xs) (y ∷ []) (h, hs) = absurd hs
answered_same a [] (y ∷ ys) h = absurd h
answered_same a (x ∷ xs) [] h = absurd h

-- a call with no answer
abbrev pub pending : CallKind → List ℕ → Called
pending k seen = record { kind = k; seen = seen; answer = None }

returned_pending : (xs : List Called) (k : CallKind) (seen : List ℕ) → returned (xs ++ pending k seen ∷ []) ≡ returned xs
returned_pending [] k seen = refl
returned_pending (x ∷ xs) k seen = ap (λ n. count_answer x.answer + n) (returned_pending xs k seen)

-- the entry of a thread that begins no call
pub own_logged : (h g : List (List Called)) (i : ℕ) (l : Log) → i < length h → i < length g → ((k : CallKind) → l ≡ Began k → ⊥) → AllZip CalledAtLeast (calls_in h i) (calls_in g i)
    → AllZip CalledAtLeast (calls_in (logged h i l) i) (calls_in (logged g i l) i)
own_logged h g i Same lh lg n z = z
own_logged h g i (Began k) lh lg n z = absurd (n k refl)
own_logged h g i (Answered a) lh lg n z = rw (in_same h i (answered a (calls_in h i)) lh, in_same g i (answered a (calls_in g i)) lg) (answered_same a (calls_in h i) (calls_in g i) z)

-- WHETHER A CALL MAY BEGIN

if_mono : (b x y : Bool) → (x ≡ true → y ≡ true) → (if b then true else x) ≡ true → (if b then true else y) ≡ true
if_mono true x y m e = refl
if_mono false x y m e = m e

may_mono : (o : Option ℕ) (i : ℕ) (f g : ℕ → Bool) → ((j : ℕ) → f j ≡ true → g j ≡ true) → may_begin o i f ≡ true → may_begin o i g ≡ true
may_mono None i f g m e = refl
may_mono (Some j) i f g m e = if_mono (i == j) (f j) (g j) (m j) e

may_call : (b : Bool) (o : Option CallKind) (k : CallKind) → call_if b o ≡ Some k → b ≡ true
may_call true o k e = refl
may_call false o k e = absurd (none-some k e)

pub false_true : (b : Bool) → b ≡ false → b ≡ true → ⊥
false_true b e f = cc

module _ {F : Type 0} (p : Program F) where
  -- a call that may begin still may after a move of another thread that was not over
  pub next_stays : (s : State F) (i j : ℕ) (m : Move F) (k : CallKind) → is_over_at p s i ≡ false → i ≢ j → next_call p s j ≡ Some k → next_call p (perform s i m) j ≡ Some k
  next_stays s i j m k over n e = go p.prologue refl
    where
      kept : ((q : ℕ) → p.prologue ≡ Some q → i ≢ q) → next_call p (perform s i m) j ≡ Some k
      kept other = kept_by_others p s i m other j n ∙ e

      go : (o : Option ℕ) → p.prologue ≡ o → next_call p (perform s i m) j ≡ Some k
      go None is = kept (λ q x same. none-some q (sym is ∙ x))
      go (Some q) is = elim (cases_eq i q) [
        | inl same ↦ absurd (false_true _ over (begins_after p s j i k e (is ∙ ap Some (sym same)) (λ x. n (sym x))))
        | inr other ↦ kept (λ r x same. other (same ∙ same_Some r q (sym x ∙ is)))
      ]

  -- a thread that may begin a call is not over
  pub begins_not_over : (s : State F) (i : ℕ) (b : Buffer) (k : CallKind) → slice_get s.threads i ≡ Some (record { core = Resting; buffer = b }) → next_call p s i ≡ Some k → is_over_at p s i ≡ false
  begins_not_over s i b k at e = moving_is_not_over p s (Exec i) (opening b k (p.start k)) (rw (at, e) refl)

-- THE RELATION

module _ {F : Type 0} (p : Program F) (n : Extent) (W : State F → Type 0) where
  -- thread i is alike in both, but for what its calls have seen
  pub record InStep (s m : State F) (i : ℕ) : Type 0 where
    pub thread : slice_get s.threads i ≡ slice_get m.threads i
    pub calls : AllZip CalledAtLeast (calls_in s.history i) (calls_in m.history i)

  -- thread i of m is in the opening of a call, which in s it may begin
  pub record Behind (s m : State F) (i : ℕ) : Type 0 where
    pub buffer : Buffer
    pub kind : CallKind
    pub frame : F
    pub passed : ℕ
    pub left : ℕ
    pub seen : List ℕ
    pub earlier : List Called
    pub idle : slice_get s.threads i ≡ Some (record { core = Resting; buffer = buffer })
    pub begun : slice_get m.threads i ≡ Some (record { core = Executing frame; buffer = buffer })
    pub may : next_call p s i ≡ Some kind
    pub counts : n.most ≡ passed + left
    pub leads : Passed p (readable (n.own i) buffer s.memory) buffer passed (p.start kind) frame
    pub calls : AllZip CalledAtLeast (calls_in s.history i) earlier
    pub last : calls_in m.history i ≡ earlier ++ pending kind seen ∷ []
    pub saw : (u : ℕ) → get_or seen u 0 ≤ returned (calls_in s.history u)

  -- s, by moves, lags behind m, by steps
  pub record Lags (s m : State F) : Type 0 where
    pub holds : W m
    pub memory : s.memory ≡ m.memory
    pub shaped : IsShaped s
    pub shaped' : IsShaped m
    pub each : (i : ℕ) → InStep s m i ⊎ Behind s m i

  pub lags_refl : (s : State F) → W s → IsShaped s → Lags s s
  lags_refl s w h = record { holds = w; memory = refl; shaped = h; shaped' = h; each = λ i. inl (record { thread = refl; calls = calls_refl (calls_in s.history i) }) }

  -- the same calls have returned
  pub counts_same : (s m : State F) (u : ℕ) → Lags s m → returned (calls_in s.history u) ≡ returned (calls_in m.history u)
  counts_same s m u h = elim (h.each u) [
    | inl x ↦ returned_same _ _ x.calls
    | inr b ↦ returned_same _ _ b.calls ∙ sym (ap returned b.last ∙ returned_pending b.earlier b.kind b.seen)
  ]

  -- a thread that is over in m is so in s
  over_lags : (s m : State F) (j : ℕ) → Lags s m → is_over_at p m j ≡ true → is_over_at p s j ≡ true
  over_lags s m j h e = elim (h.each j) [
    | inl x ↦ ap (λ (o : Option (CompactThread F)). is_thread_over p j (begun_by s j) o) x.thread ∙ (ap (λ k. is_thread_over p j k (slice_get m.threads j)) (length_all_zip CalledAtLeast _ _ x.calls) ∙ e)
    | inr b ↦ absurd (false_true _ (ap (λ (o : Option (CompactThread F)). is_thread_over p j (begun_by m j) o) b.begun) e)
  ]

  -- a call that may begin in m may begin in s
  pub next_lags : (s m : State F) (i : ℕ) (k : CallKind) → Lags s m → InStep s m i → next_call p m i ≡ Some k → next_call p s i ≡ Some k
  next_lags s m i k h x e =
      let may : may_begin p.prologue i (is_over_at p s) ≡ true = may_mono p.prologue i (is_over_at p m) (is_over_at p s) (λ j. over_lags s m j h) (may_call _ _ k e) in
      ap (λ b. call_if b (slice_get (calls_of p i) (begun_by s i))) may ∙ (ap (λ c. slice_get (calls_of p i) c) (length_all_zip CalledAtLeast _ _ x.calls) ∙ call_if_some _ _ k e)

  -- y is x but for thread i
  pub record Elsewhere (x y : State F) (i : ℕ) : Type 0 where
    pub threads : (j : ℕ) → i ≢ j → slice_get y.threads j ≡ slice_get x.threads j
    pub calls : (j : ℕ) → i ≢ j → calls_in y.history j ≡ calls_in x.history j

  pub elsewhere_same : (s : State F) (i : ℕ) → Elsewhere s s i
  elsewhere_same s i = record { threads = λ j e. refl; calls = λ j e. refl }

  pub elsewhere : (s : State F) (i : ℕ) (m : Move F) → Elsewhere s (perform s i m) i
  elsewhere s i m = record { threads = λ j e. thread_other p s i j m e; calls = λ j e. calls_other s.history i j m.log e }

  pub in_step_elsewhere : (s m s' m' : State F) (i j : ℕ) → Elsewhere s s' i → Elsewhere m m' i → i ≢ j → InStep s m j → InStep s' m' j
  in_step_elsewhere s m s' m' i j es em ne x = record {
    thread = es.threads j ne ∙ (x.thread ∙ sym (em.threads j ne));
    calls = rw (es.calls j ne, em.calls j ne) x.calls;
  }

  -- what s' keeps of s
  pub record Onward (s s' : State F) (i : ℕ) : Type 0 where
    pub elsewhere : Elsewhere s s' i
    pub next : (j : ℕ) (k : CallKind) → i ≢ j → next_call p s j ≡ Some k → next_call p s' j ≡ Some k
    pub grows : (u : ℕ) → returned (calls_in s.history u) ≤ returned (calls_in s'.history u)
    pub words : (j q : ℕ) (k : CallKind) → i ≢ j → next_call p s j ≡ Some k → n.own j q ≡ true → get_or s.memory q 0 ≡ get_or s'.memory q 0

  pub onward_same : (s : State F) (i : ℕ) → Onward s s i
  onward_same s i = record { elsewhere = elsewhere_same s i; next = λ j k ne e. e; grows = λ u. le_refl _; words = λ j q k ne e o. refl }

  -- a move does not write what openings of other threads may read
  abbrev pub Spares : State F → ℕ → Move F → Type 0
  Spares s i m = (j q : ℕ) (k : CallKind) → i ≢ j → next_call p s j ≡ Some k → n.own j q ≡ true → Writes m.access q → ⊥

  pub onward : (s : State F) (i : ℕ) (m : Move F) → i < length s.history → is_over_at p s i ≡ false → Spares s i m → Onward s (perform s i m) i
  onward s i m lt over spares = record { words = λ j q k ne e o. sym (word_apart s.memory m.access (Read q) (λ u w r. spares j q k ne e o (subst (Writes m.access) (sym r) w))); elsewhere = elsewhere s i m; next = λ j k ne e. next_stays p s i j m k over ne e; grows = λ u. returned_grows s.history i u m.log lt }

  behind_elsewhere : (s m s' m' : State F) (i j : ℕ) → Onward s s' i → Elsewhere m m' i → i ≢ j → Behind s m j → Behind s' m' j
  behind_elsewhere s m s' m' i j o em ne b = record {
    buffer = b.buffer;
    kind = b.kind;
    frame = b.frame;
    passed = b.passed;
    left = b.left;
    seen = b.seen;
    earlier = b.earlier;
    idle = o.elsewhere.threads j ne ∙ b.idle;
    begun = em.threads j ne ∙ b.begun;
    may = o.next j b.kind ne b.may;
    counts = b.counts;
    leads = subst (λ r. Passed p r b.buffer b.passed (p.start b.kind) b.frame) (readable_same (n.own j) b.buffer s.memory s'.memory (λ q own. o.words j q b.kind ne b.may own)) b.leads;
    calls = rw (o.elsewhere.calls j ne) b.calls;
    last = em.calls j ne ∙ b.last;
    saw = λ u. le_trans (b.saw u) (o.grows u);
  }

  -- thread i alone has gone on, in one or both
  pub lags_after : (s m s' m' : State F) (i : ℕ) → Lags s m → W m' → s'.memory ≡ m'.memory → IsShaped s' → IsShaped m' → Onward s s' i → Elsewhere m m' i → InStep s' m' i ⊎ Behind s' m' i → Lags s' m'
  lags_after s m s' m' i h w memory shaped shaped' o em own = record {
    holds = w;
    memory = memory;
    shaped = shaped;
    shaped' = shaped';
    each = λ j. elim (cases_eq i j) [
      | inl same ↦ subst (λ k. InStep s' m' k ⊎ Behind s' m' k) same own
      | inr other ↦ elim (h.each j) [
        | inl x ↦ inl (in_step_elsewhere s m s' m' i j o.elsewhere em other x)
        | inr b ↦ inr (behind_elsewhere s m s' m' i j o em other b)
      ]
    ];
  }

  pub shaped_after : (s : State F) (i : ℕ) (m : Move F) → IsShaped s → IsShaped (perform s i m)
  shaped_after s i m h = length_logged s.history i m.log ∙ (h ∙ sym (length-set s.threads i _))

  pub in_history : (s : State F) (i : ℕ) (t : CompactThread F) → IsShaped s → slice_get s.threads i ≡ Some t → i < length s.history
  in_history s i t h at = let lt = slice_get_within s.threads i t at in omega (arith, lt, h)
