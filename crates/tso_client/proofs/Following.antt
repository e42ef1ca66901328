-- A program that covers another follows each of its labels.
use Rattle.std.proofs.Common.{◌≡◌, ℕ, zero, suc, ◌<◌, ◌==◌, if◌then◌else◌, Bool, true, false, List, [], ◌∷◌, ◌++◌, length, slice_get, slice_set, refl, sym, ◌∙◌, ap, subst, arith, Option, Some, None, inl, inr}
use Rattle.std.specs.Option.{option_map}
use Rattle.std.proofs.Math.Decide.{ℕ_discrete}
use Rattle.std.proofs.lemmas.Bool.{eq-eqb, ne_eqb}
use Rattle.std.proofs.lemmas.List.{length-set, length-map}
use Rattle.std.proofs.lemmas.Option.{none-some, same_Some, slice_get_within}
use Rattle.tso_model.specs.Labels.{By, Call, Idle, Kind, Label, Machine, Outside, Rule, Run, Running, Stage, Thread, Unblocked, call, drain, fault, fence, first_machine, is_idle, is_over_in, lock, next_call_in, read, read_locked, reg, return, unlock, update, write, write_locked}
use Rattle.tso_model.specs.Programs.{CallKind, Program, calls_of}
use Rattle.tso_model.specs.Prologue.{call_if, is_over, may_begin}
use Rattle.tso_model.specs.States.{Buffer}
use Rattle.tso_model.proofs.Begin.{call_if_some}
use Rattle.tso_model.proofs.Ordered.{get_left}
use Rattle.tso_model.proofs.Places.{get_set_other, get_set_same, map_get, map_got}
use Rattle.tso_client.specs.Covering.{CoversBy, IsBeginning, IsPrologueOf}
use Rattle.tso_client.specs.Renamings.{IsRenamed, renamed}

-- LISTS AND TESTS

get_within : {A : Type 0} (xs : List A) (i : ℕ) → i < length xs → (x : A) × (slice_get xs i ≡ Some x)
get_within [] i h = absurd (omega arith)
get_within (x ∷ xs) zero h = (x, refl)
get_within (x ∷ xs) (suc i) h = get_within xs i (omega (arith, h))

-- what a list has at a place, each list has there that begins with it
beginning_get : {A : Type 0} (xs ys : List A) (i : ℕ) (x : A) → IsBeginning xs ys → slice_get xs i ≡ Some x → slice_get ys i ≡ Some x
beginning_get xs ys i x (more, is) e = rw is (get_left xs more i x e)

may_call : (b : Bool) (o : Option CallKind) (k : CallKind) → call_if b o ≡ Some k → b ≡ true
may_call true o k e = refl
may_call false o k e = absurd (none-some k e)

if_true : (b c : Bool) → c ≡ true → (if b then true else c) ≡ true
if_true true c e = refl
if_true false c e = e

empty_left : {A : Type 0} (xs ys : List A) → xs ++ ys ≡ [] → xs ≡ []
empty_left [] ys e = refl
empty_left (x ∷ xs) ys e = cc

-- THE RELATION

-- idle, with nothing buffered
record IsAtRest {F : Type 0} (t : Thread F) : Type 0 where
  core : t.core ≡ Idle
  buffer : t.buffer ≡ []

-- as many threads as P has, each of which is among the others under its new number; and of these others, those that have no calls rest
record Alike {F : Type 0} (e : ℕ → ℕ) (P Q : Program F) (ts us : List (Thread F)) : Type 0 where
  size : length ts ≡ length P.calls
  at : (i : ℕ) (t : Thread F) → slice_get ts i ≡ Some t → slice_get us (e i) ≡ Some t
  rest : (j : ℕ) (t : Thread F) → calls_of Q j ≡ [] → slice_get us j ≡ Some t → IsAtRest t

-- the machine with other numbers, and these threads
abbrev over : {F : Type 0} → (ℕ → ℕ) → Machine F → List (Thread F) → Machine F
over e m us = record { memory = m.memory; lock = option_map e m.lock; threads = us }

runs_not : {F : Type 0} (t : Thread F) (f : F) (st : Stage) → IsAtRest t → t.core ≡ Running f st → ⊥
runs_not t f st r running = let idle = r.core in cc

holds_not : {F : Type 0} (t : Thread F) (x : ℕ × ℕ) (rest : Buffer) → IsAtRest t → t.buffer ≡ x ∷ rest → ⊥
holds_not t x rest r entry = let empty = r.buffer in cc

module _ {F : Type 0} (e : ℕ → ℕ) (P Q : Program F) (c : CoversBy e P Q) where
  -- a thread changes alike in both
  alike_set : (ts us : List (Thread F)) (i : ℕ) (t u : Thread F) → Alike e P Q ts us → slice_get ts i ≡ Some t → (calls_of Q (e i) ≡ [] → ⊥)
      → Alike e P Q (slice_set ts i u) (slice_set us (e i) u)
  alike_set ts us i t u a at some = record {
    size = length-set ts i u ∙ a.size;
    at = λ j w here. go j w here (ℕ_discrete i j);
    rest = λ j w none here. rests j w none here (ℕ_discrete (e i) j);
  }
    where
      rests : (j : ℕ) (w : Thread F) → calls_of Q j ≡ [] → slice_get (slice_set us (e i) u) j ≡ Some w → Dec (e i ≡ j) → IsAtRest w
      rests j w none here (yes q) = absurd (some (subst (λ (k : ℕ). calls_of Q k ≡ []) (sym q) none))
      rests j w none here (no n) = a.rest j w none (sym (get_set_other us (e i) j u n) ∙ here)

      in_range : (j : ℕ) (w : Thread F) → slice_get ts j ≡ Some w → j < length P.calls
      in_range j w here = let lt = slice_get_within ts j w here in let s = a.size in omega (arith, lt, s)

      go : (j : ℕ) (w : Thread F) → slice_get (slice_set ts i u) j ≡ Some w → Dec (i ≡ j) → slice_get (slice_set us (e i) u) (e j) ≡ Some w
      go j w here (yes q) =
          let A : ℕ → Type 0 = λ k. slice_get (slice_set ts i u) k ≡ Some w in
          let same : u ≡ w = same_Some u w (sym (get_set_same ts i t u at) ∙ subst A (sym q) here) in
          let B : ℕ → Type 0 = λ k. slice_get (slice_set us (e i) u) (e k) ≡ Some w in
          subst B q (get_set_same us (e i) t u (a.at i t at) ∙ ap Some same)
      go j w here (no n) =
          let there : slice_get ts j ≡ Some w = sym (get_set_other ts i j u n) ∙ here in
          get_set_other us (e i) (e j) u (λ q. n (c.apart i j (in_range i t at) (in_range j w there) q)) ∙ a.at j w there

  -- where P's prologue is over, so is Q's
  prologue_over : (m : Machine F) (us : List (Thread F)) (i : ℕ) → Alike e P Q m.threads us
      → may_begin P.prologue i (λ j. is_over_in P j (slice_get m.threads j)) ≡ true
      → may_begin Q.prologue (e i) (λ j. is_over_in Q j (slice_get us j)) ≡ true
  prologue_over m us i a h = go Q.prologue refl
    where
      over_there : (j : ℕ) (p : IsPrologueOf e P Q j) → is_over_in P p.thread (slice_get m.threads p.thread) ≡ true → is_over_in Q j (slice_get us j) ≡ true
      over_there j p o =
          let s = a.size in
          let w = p.within in
          let (t, at) = get_within m.threads p.thread (omega (arith, s, w)) in
          let A : ℕ → Type 0 = λ k. slice_get us k ≡ Some t in
          let there : slice_get us j ≡ Some t = subst A p.goes (a.at p.thread t at) in
          let B : List CallKind → Type 0 = λ ks. is_over (is_idle t.core) (slice_get ks t.begun) t.buffer ≡ true in
          rw there (subst B (sym p.calls) (rw at at o))

      decide : (j : ℕ) (p : IsPrologueOf e P Q j) → may_begin (Some p.thread) i (λ k. is_over_in P k (slice_get m.threads k)) ≡ true → Dec (i ≡ p.thread)
          → may_begin (Some j) (e i) (λ k. is_over_in Q k (slice_get us k)) ≡ true
      decide j p o (yes q) = rw (eq-eqb (e i) j (ap e q ∙ p.goes)) refl
      decide j p o (no n) = if_true (e i == j) _ (over_there j p (rw (ne_eqb i p.thread n) at o))

      rests : (j : ℕ) → calls_of Q j ≡ [] → (o : Option (Thread F)) → slice_get us j ≡ o → is_over_in Q j o ≡ true
      rests j none None at = refl
      rests j none (Some t) at = let r = a.rest j t none at in rw (r.core, r.buffer, none) refl

      go : (q : Option ℕ) → Q.prologue ≡ q → may_begin q (e i) (λ j. is_over_in Q j (slice_get us j)) ≡ true
      go None is = refl
      go (Some j) is = elim (c.prologue j is) [
        | inl none ↦ if_true (e i == j) _ (rests j none (slice_get us j) refl)
        | inr p ↦ decide j p (subst (λ (o : Option ℕ). may_begin o i (λ k. is_over_in P k (slice_get m.threads k)) ≡ true) p.named h) (ℕ_discrete i p.thread)
      ]

  -- what P's thread may begin now, Q's may
  same_call : (m : Machine F) (us : List (Thread F)) (i n : ℕ) (k : CallKind) → i < length P.calls → Alike e P Q m.threads us
      → next_call_in P m i n ≡ Some k → next_call_in Q (over e m us) (e i) n ≡ Some k
  same_call m us i n k lt a found =
      let begins = prologue_over m us i a (may_call _ _ k found) in
      rw begins (beginning_get (calls_of P i) (calls_of Q (e i)) n k (c.calls i lt) (call_if_some _ _ k found))

  free : (m : Machine F) (us : List (Thread F)) (i : ℕ) → Unblocked m i → Unblocked (over e m us) (e i)
  free m us i (inl n) = inl (ap (option_map e) n)
  free m us i (inr s) = inr (ap (option_map e) s)

  -- a label of P's thread i is one of Q's thread e i
  Follows : (m : Machine F) (i : ℕ) (t : Thread F) (k : Kind) (m' : Machine F) (us : List (Thread F)) → Type 0
  Follows m i t k m' us = (vs : List (Thread F)) × Rule Q (over e m us) (e i) t k (over e m' vs) × Alike e P Q m'.threads vs

  -- a thread that has a label has calls
  has_calls : (m : Machine F) (i : ℕ) (t : Thread F) → IsAtRest t → calls_of P i ≡ [] → {k : Kind} {m' : Machine F} → Rule P m i t k m' → ⊥
  has_calls m i t r none (call k idle found) = none-some k (sym (ap (λ (ks : List CallKind). slice_get ks t.begun) none) ∙ call_if_some _ _ k found)
  has_calls m i t r none (reg f g running next) = runs_not t f _ r running
  has_calls m i t r none (read f p k running next unblocked) = runs_not t f _ r running
  has_calls m i t r none (write f p v g running next) = runs_not t f _ r running
  has_calls m i t r none (drain p v rest entry unblocked) = holds_not t _ rest r entry
  has_calls m i t r none (fence f g running next empty) = runs_not t f _ r running
  has_calls m i t r none (lock f p n k running next unlocked empty) = runs_not t f _ r running
  has_calls m i t r none (read_locked f p n k running next unblocked) = runs_not t f _ r running
  has_calls m i t r none (write_locked f p n k old running next) = runs_not t f _ r running
  has_calls m i t r none (unlock f p n k old running next held empty) = runs_not t f _ r running
  has_calls m i t r none (return f x running next) = runs_not t f _ r running
  has_calls m i t r none (fault f n running next) = runs_not t f _ r running

  has_some : (m : Machine F) (i : ℕ) (t : Thread F) (us : List (Thread F)) → Alike e P Q m.threads us → slice_get m.threads i ≡ Some t
      → {k : Kind} {m' : Machine F} → Rule P m i t k m' → calls_of Q (e i) ≡ [] → ⊥
  has_some m i t us a at rule none =
      let lt = slice_get_within m.threads i t at in
      let s = a.size in
      let (more, is) = c.calls i (omega (arith, lt, s)) in
      has_calls m i t (a.rest (e i) t none (a.at i t at)) (empty_left (calls_of P i) more (sym is ∙ none)) rule

  follow : (m : Machine F) (i : ℕ) (t : Thread F) (us : List (Thread F)) → Alike e P Q m.threads us → slice_get m.threads i ≡ Some t → (calls_of Q (e i) ≡ [] → ⊥)
      → {k : Kind} {m' : Machine F} → Rule P m i t k m' → Follows m i t k m' us
  unfolding Follows
  follow m i t us a at some (call k idle found) =
      let lt = slice_get_within m.threads i t at in
      let s = a.size in
      let first : Rule Q (over e m us) (e i) t (Call k) (update (over e m us) (e i) (record t { begun = suc t.begun; core = Running (Q.start k) Outside })) =
      call k idle (same_call m us i t.begun k (omega (arith, lt, s)) a found) in
      let R : F → Type 0 = λ f. Rule Q (over e m us) (e i) t (Call k) (update (over e m us) (e i) (record t { begun = suc t.begun; core = Running f Outside })) in
      (_, subst R (c.start k) first, alike_set m.threads us i t _ a at some)
  follow m i t us a at some (reg f g running next) = (_, reg f g running (c.next f ∙ next), alike_set m.threads us i t _ a at some)
  follow m i t us a at some (read f p k running next unblocked) = (_, read f p k running (c.next f ∙ next) (free m us i unblocked), alike_set m.threads us i t _ a at some)
  follow m i t us a at some (write f p v g running next) = (_, write f p v g running (c.next f ∙ next), alike_set m.threads us i t _ a at some)
  follow m i t us a at some (drain p v rest entry unblocked) = (_, drain p v rest entry (free m us i unblocked), alike_set m.threads us i t _ a at some)
  follow m i t us a at some (fence f g running next empty) = (_, fence f g running (c.next f ∙ next) empty, alike_set m.threads us i t _ a at some)
  follow m i t us a at some (lock f p n k running next unlocked empty) = (_, lock f p n k running (c.next f ∙ next) (ap (option_map e) unlocked) empty, alike_set m.threads us i t _ a at some)
  follow m i t us a at some (read_locked f p n k running next unblocked) = (_, read_locked f p n k running (c.next f ∙ next) (free m us i unblocked), alike_set m.threads us i t _ a at some)
  follow m i t us a at some (write_locked f p n k old running next) = (_, write_locked f p n k old running (c.next f ∙ next), alike_set m.threads us i t _ a at some)
  follow m i t us a at some (unlock f p n k old running next held empty) = (_, unlock f p n k old running (c.next f ∙ next) (ap (option_map e) held) empty, alike_set m.threads us i t _ a at some)
  follow m i t us a at some (return f x running next) = (_, return f x running (c.next f ∙ next), alike_set m.threads us i t _ a at some)
  follow m i t us a at some (fault f n running next) = (_, fault f n running (c.next f ∙ next), alike_set m.threads us i t _ a at some)

  -- and so on with all labels of a run
  follow_all : (m m' : Machine F) (ls : List Label) (us : List (Thread F)) → Alike e P Q m.threads us → Run P m ls m'
      → (vs : List (Thread F)) × Run Q (over e m us) (renamed e ls) (over e m' vs) × Alike e P Q m'.threads vs
  unfolding Follows
  follow_all m m' [] us a r =
      let A : Machine F → Type 0 = λ x. Alike e P Q x.threads us in
      (us, ap (λ (x : Machine F). over e x us) r, subst A (sym r) a)
  follow_all m m' (By i k ∷ ls) us a (mid, (t, at, rule), rest) =
      let (vs, first, b) = follow m i t us a at (has_some m i t us a at rule) rule in
      let (ws, later, d) = follow_all mid m' ls vs b rest in
      (ws, (over e mid vs, (t, a.at i t at, first), later), d)

  -- at first
  alike_first : (memory : List ℕ) → Alike e P Q (first_machine P memory).threads (first_machine Q memory).threads
  alike_first memory = record { size = length-map P.calls _; at = λ i t here. go i t here; rest = λ j t none here. rests j t here }
    where
      rests : (j : ℕ) (t : Thread F) → slice_get (first_machine Q memory).threads j ≡ Some t → IsAtRest t
      rests j t here =
          let (ks, at, is) = map_got (λ (x : List CallKind). record { begun = 0; core = Idle; buffer = [] }) Q.calls j t here in
          record { core = ap (λ (u : Thread F). u.core) (sym is); buffer = ap (λ (u : Thread F). u.buffer) (sym is) }

      go : (i : ℕ) (t : Thread F) → slice_get (first_machine P memory).threads i ≡ Some t → slice_get (first_machine Q memory).threads (e i) ≡ Some t
      go i t here =
          let (ks, at, is) = map_got (λ (x : List CallKind). record { begun = 0; core = Idle; buffer = [] }) P.calls i t here in
          let (ls, there) = get_within Q.calls (e i) (c.within i (slice_get_within P.calls i ks at)) in
          map_get _ Q.calls (e i) ls there ∙ ap Some is

  pub runs_are_covered : (memory : List ℕ) (ls : List Label) (m : Machine F) → Run P (first_machine P memory) ls m
      → (m' : Machine F) × Run Q (first_machine Q memory) (renamed e ls) m' × IsRenamed e m m'
  runs_are_covered memory ls m r =
      let (vs, run, a) = follow_all (first_machine P memory) m ls (first_machine Q memory).threads (alike_first memory) r in
      (over e m vs, run, record { memory = refl; lock = refl; threads = a.at })
