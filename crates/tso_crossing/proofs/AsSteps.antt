-- Moves as steps: an opening is steps of its thread, and so is each move.
use Rattle.std.proofs.Common.{◌≡◌, ℕ, zero, suc, List, [], ◌∷◌, ◌++◌, Option, Some, None, ◌⊎◌, refl, sym, ◌∙◌, ap, subst, inl, inr, arith, ◌<◌, ◌≤◌, Bool, true}
use Rattle.std.specs.List.{slice_get}
use Rattle.std.specs.Option.{option_map, option_and_then}
use Rattle.std.proofs.lemmas.List.{set-set}
use Rattle.std.proofs.lemmas.Option.{none-some, same_Some, option_and_then_some}
use Rattle.tso_model.specs.Measure.{IsRanked}
use Rattle.tso_model.specs.Programs.{Action, Silent, Load, Store, Barrier, Locked, Ret, Fail, Cut, CallKind, Program}
use Rattle.tso_model.specs.Prologue.{next_call}
use Rattle.tso_model.specs.Reduce.{Over, Steps}
use Rattle.tso_model.specs.States.{Buffer, CompactCore, CompactThread, Executing, Halted, Resting, State}
use Rattle.tso_model.specs.Steps.{Actor, Drains, Exec, Move, action_move, call_move, core_move, drain_move, move, perform, step, thread_of}
use Rattle.tso_model.proofs.Moves.{step_is}
use Rattle.tso_model.proofs.Moves as moves
use Rattle.tso_model.proofs.Own.{state_eq}
use Rattle.tso_model.proofs.Places.{get_set_same}
use Rattle.tso_model.proofs.Reduce.{steps_append}
use Rattle.tso_crossing.specs.Late.{AllAre, IsStill, MovesAreSteps, MovesEndAlike, OpeningsAreWhole}
use Rattle.tso_crossing.specs.Moves.{Extent, call_parts, core_parts, goes_on, idle_parts, late_move, one_part, opened, opened_call, opening, or_stay, parts, perform_all, readable}
use Rattle.tso_crossing.proofs.Dominance.{no_parts}
use Rattle.tso_crossing.proofs.Openings.{Passed, opened_passes, passing, passing_move}

all_are_append : {X : Type 0} (x : X) (ys zs : List X) → AllAre x ys → AllAre x zs → AllAre x (ys ++ zs)
all_are_append x [] zs h k = k
all_are_append x (y ∷ ys) zs (h, hs) k = (h, all_are_append x ys zs hs k)

pub lates : {F : Type 0} (p : Program F) (n : Extent) (s s' : State F) (a : Actor) → late_move p n s a ≡ Some s' → (ms : List (Move F)) × (parts p n s a ≡ Some ms) × (perform_all s (thread_of a) ms ≡ s')
lates p n s s' a e = option_and_then_some _ (parts p n s a) s' e (λ ms em is. (ms, em, same_Some _ _ is))

pub late_is : {F : Type 0} (p : Program F) (n : Extent) (s : State F) (a : Actor) (ms : List (Move F)) → parts p n s a ≡ Some ms → late_move p n s a ≡ Some (perform_all s (thread_of a) ms)
late_is p n s a ms e = ap (option_map (perform_all s (thread_of a))) e

-- WHAT A MOVE IS

module _ {F : Type 0} (p : Program F) (n : Extent) (s : State F) where
  -- a step alone
  pub record IsStep (a : Actor) (ms : List (Move F)) : Type 0 where
    pub one : Move F
    pub is : ms ≡ one_part one
    pub moves : move p s a ≡ Some one

  -- what comes after the opening
  pub data Then (b : Buffer) (f : F) : List (Move F) → Type 0 where
    Ends : p.next f ≡ Cut → Then b f []
    Goes : (m : Move F) → action_move b (p.next f) ≡ Some m → Then b f (m ∷ [])

  -- thread i begins a call, with its opening
  pub record Begins (i : ℕ) (ms : List (Move F)) : Type 0 where
    pub buffer : Buffer
    pub kind : CallKind
    pub frame : F
    pub rest : List (Move F)
    pub idle : slice_get s.threads i ≡ Some (record { core = Resting; buffer = buffer })
    pub may : next_call p s i ≡ Some kind
    pub leads : opened_call p n i s.memory buffer kind ≡ frame
    pub is : ms ≡ opening buffer kind frame ∷ rest
    pub next : Then buffer frame rest

  then_of : (b : Buffer) (k : CallKind) (f : F) (act : Action F) (ms : List (Move F)) → p.next f ≡ act → call_parts b k f act ≡ Some ms → (rest : List (Move F)) × (ms ≡ opening b k f ∷ rest) × Then b f rest
  then_of b k f (Silent g) ms at e = option_and_then_some _ (action_move b (Silent g)) ms e (λ m em is. (m ∷ [], sym (same_Some _ _ is), Goes m (ap (action_move b) at ∙ em)))
  then_of b k f (Load q l) ms at e = option_and_then_some _ (action_move b (Load q l)) ms e (λ m em is. (m ∷ [], sym (same_Some _ _ is), Goes m (ap (action_move b) at ∙ em)))
  then_of b k f (Store q v g) ms at e = option_and_then_some _ (action_move b (Store q v g)) ms e (λ m em is. (m ∷ [], sym (same_Some _ _ is), Goes m (ap (action_move b) at ∙ em)))
  then_of b k f (Barrier g) ms at e = option_and_then_some _ (action_move b (Barrier g)) ms e (λ m em is. (m ∷ [], sym (same_Some _ _ is), Goes m (ap (action_move b) at ∙ em)))
  then_of b k f (Locked q new l) ms at e = option_and_then_some _ (action_move b (Locked q new l)) ms e (λ m em is. (m ∷ [], sym (same_Some _ _ is), Goes m (ap (action_move b) at ∙ em)))
  then_of b k f (Ret a) ms at e = option_and_then_some _ (action_move b (Ret a)) ms e (λ m em is. (m ∷ [], sym (same_Some _ _ is), Goes m (ap (action_move b) at ∙ em)))
  then_of b k f (Fail x) ms at e = option_and_then_some _ (action_move b (Fail x)) ms e (λ m em is. (m ∷ [], sym (same_Some _ _ is), Goes m (ap (action_move b) at ∙ em)))
  then_of b k f Cut ms at e = ([], sym (same_Some _ _ e), Ends at)

  call_kind : (i : ℕ) (b : Buffer) (o : Option CallKind) (ms : List (Move F)) → slice_get s.threads i ≡ Some (record { core = Resting; buffer = b }) → next_call p s i ≡ o → core_parts p n i s.memory o Resting b ≡ Some ms → Begins i ms
  call_kind i b None ms at call e = absurd (none-some ms e)
  call_kind i b (Some k) ms at call e =
      let f : F = opened_call p n i s.memory b k in
      let (rest, is, next) = then_of b k f (p.next f) ms refl e in
      record { buffer = b; kind = k; frame = f; rest = rest; idle = at; may = call; leads = refl; is = is; next = next }

  -- thread i runs its next instruction
  pub record Runs (i : ℕ) (ms : List (Move F)) : Type 0 where
    pub buffer : Buffer
    pub frame : F
    pub one : Move F
    pub running : slice_get s.threads i ≡ Some (record { core = Executing frame; buffer = buffer })
    pub is : ms ≡ one_part one
    pub acts : action_move buffer (p.next frame) ≡ Some one

  core_kind : (i : ℕ) (c : CompactCore F) (b : Buffer) (ms : List (Move F)) → slice_get s.threads i ≡ Some (record { core = c; buffer = b }) → core_parts p n i s.memory (next_call p s i) c b ≡ Some ms → Runs i ms ⊎ Begins i ms
  core_kind i Resting b ms at e = inr (call_kind i b (next_call p s i) ms at refl e)
  core_kind i (Executing f) b ms at e = option_and_then_some _ (action_move b (p.next f)) ms e (λ m em is. inl (record { buffer = b; frame = f; one = m; running = at; is = sym (same_Some _ _ is); acts = em }))
  core_kind i Halted b ms at e = absurd (none-some ms e)

  pub exec_kind : (i : ℕ) (ms : List (Move F)) → parts p n s (Exec i) ≡ Some ms → Runs i ms ⊎ Begins i ms
  exec_kind i ms e = option_and_then_some _ (slice_get s.threads i) ms e (λ t at is. core_kind i t.core t.buffer ms at is)

  pub run_step : (i : ℕ) (ms : List (Move F)) → Runs i ms → IsStep (Exec i) ms
  run_step i ms x = record { one = x.one; is = x.is; moves = rw x.running x.acts }

  -- a move is a step alone, or begins a call
  pub data Kind : Actor → List (Move F) → Type 0 where
    Step : (a : Actor) (ms : List (Move F)) → IsStep a ms → Kind a ms
    Call : (i : ℕ) (ms : List (Move F)) → Begins i ms → Kind (Exec i) ms

  pub drain_kind : (i : ℕ) (ms : List (Move F)) → parts p n s (Drains i) ≡ Some ms → IsStep (Drains i) ms
  drain_kind i ms e = option_and_then_some _ (slice_get s.threads i) ms e (λ t at is. option_and_then_some _ (drain_move t.core t.buffer) ms is (λ m em q. record { one = m; is = sym (same_Some _ _ q); moves = rw at em }))

  pub kind_of : (a : Actor) (ms : List (Move F)) → parts p n s a ≡ Some ms → Kind a ms
  kind_of (Exec i) ms e = elim (exec_kind i ms e) [ inl x ↦ Step (Exec i) ms (run_step i ms x) | inr x ↦ Call i ms x ]
  kind_of (Drains i) ms e = Step (Drains i) ms (drain_kind i ms e)

-- AN OPENING IS STEPS

-- steps of the actor lead from s to s'
pub record ActorSteps {F : Type 0} (p : Program F) (a : Actor) (s s' : State F) : Type 0 where
  pub steps : List Actor
  pub all : AllAre a steps
  pub run : Steps (step p) s steps s'

module _ {F : Type 0} (p : Program F) where
  pub no_steps : (a : Actor) (s : State F) → ActorSteps p a s s
  no_steps a s = record { steps = []; all = tt; run = refl }

  pub one_step : (a : Actor) (s s' : State F) → step p s a ≡ Some s' → ActorSteps p a s s'
  one_step a s s' e = record { steps = a ∷ []; all = (refl, tt); run = (s', e, refl) }

  pub more_steps : (a : Actor) (s m t : State F) → ActorSteps p a s m → ActorSteps p a m t → ActorSteps p a s t
  more_steps a s m t x y = record { steps = x.steps ++ y.steps; all = all_are_append a x.steps y.steps x.all y.all; run = steps_append (step p) x.steps y.steps s m t x.run y.run }

module _ {F : Type 0} (p : Program F) (s : State F) (i : ℕ) (b : Buffer) (k : CallKind) (idle : slice_get s.threads i ≡ Some (record { core = Resting; buffer = b })) where
  -- the next instruction of the opening
  passes_on : (own : ℕ → Bool) (g h : F) → goes_on (readable own b s.memory) b (p.next h) ≡ Some g → step p (perform s i (opening b k h)) (Exec i) ≡ Some (perform s i (opening b k g))
  passes_on own g h e =
      let s1 : State F = perform s i (opening b k h) in
      let there : slice_get s1.threads i ≡ Some (record { core = Executing h; buffer = b }) = get_set_same s.threads i _ _ idle in
      let (x, ex, alike) = passing_move own b s1 i (p.next h) g e in
      let moves : move p s1 (Exec i) ≡ Some x = rw there ex in
      step_is p s1 (Exec i) x moves ∙ ap Some (alike ∙ state_eq (perform s1 i (passing g b)) (perform s i (opening b k g)) refl (set-set s.threads i _ _) refl)

  passed_steps : (own : ℕ → Bool) (c : ℕ) (g : F) → Passed p (readable own b s.memory) b c (p.start k) g → ActorSteps p (Exec i) (perform s i (opening b k (p.start k))) (perform s i (opening b k g))
  passed_steps own zero g q = subst (λ h. ActorSteps p (Exec i) (perform s i (opening b k (p.start k))) (perform s i (opening b k h))) q (no_steps p (Exec i) _)
  passed_steps own (suc c) g (h, q, on) = more_steps p (Exec i) _ _ _ (passed_steps own c h q) (one_step p (Exec i) _ _ (passes_on own g h on))

  -- the first is the call
  pub call_step : next_call p s i ≡ Some k → step p s (Exec i) ≡ Some (perform s i (opening b k (p.start k)))
  call_step may = step_is p s (Exec i) (opening b k (p.start k)) (rw (idle, may) refl)

  pub opening_steps : (n : Extent) → ActorSteps p (Exec i) (perform s i (opening b k (p.start k))) (perform s i (opening b k (opened_call p n i s.memory b k)))
  opening_steps n = let (c, q) = opened_passes p (readable (n.own i) b s.memory) n.most b (p.start k) in passed_steps (n.own i) c (opened_call p n i s.memory b k) q

-- A MOVE IS STEPS

-- a first step, and more
pub record AsSteps {F : Type 0} (p : Program F) (a : Actor) (s s' : State F) : Type 0 where
  pub first : State F
  pub begins : step p s a ≡ Some first
  pub more : ActorSteps p a first s'

module _ {F : Type 0} (p : Program F) (n : Extent) (s : State F) where
  single_steps : (a : Actor) (ms : List (Move F)) → IsStep p n s a ms → AsSteps p a s (perform_all s (thread_of a) ms)
  single_steps a ms x = record {
    first = perform s (thread_of a) x.one;
    begins = step_is p s a x.one x.moves;
    more = subst (λ ys. ActorSteps p a (perform s (thread_of a) x.one) (perform_all s (thread_of a) ys)) (sym x.is) (no_steps p a _);
  }

  -- the step after the opening
  after_steps : (i : ℕ) (b : Buffer) (k : CallKind) (f : F) (rest : List (Move F)) → slice_get s.threads i ≡ Some (record { core = Resting; buffer = b }) → Then p n s b f rest → ActorSteps p (Exec i) (perform s i (opening b k f)) (perform_all (perform s i (opening b k f)) i rest)
  after_steps i b k f _ idle (Ends cut) = no_steps p (Exec i) _
  after_steps i b k f _ idle (Goes m e) =
      let s1 : State F = perform s i (opening b k f) in
      let there : slice_get s1.threads i ≡ Some (record { core = Executing f; buffer = b }) = get_set_same s.threads i _ _ idle in
      one_step p (Exec i) s1 (perform s1 i m) (step_is p s1 (Exec i) m (rw there e))

  begins_steps : (i : ℕ) (ms : List (Move F)) → Begins p n s i ms → AsSteps p (Exec i) s (perform_all s i ms)
  begins_steps i ms x =
      let opens : ActorSteps p (Exec i) (perform s i (opening x.buffer x.kind (p.start x.kind))) (perform s i (opening x.buffer x.kind x.frame)) =
      subst (λ f. ActorSteps p (Exec i) (perform s i (opening x.buffer x.kind (p.start x.kind))) (perform s i (opening x.buffer x.kind f))) x.leads (opening_steps p s i x.buffer x.kind x.idle n) in
      record {
        first = perform s i (opening x.buffer x.kind (p.start x.kind));
        begins = call_step p s i x.buffer x.kind x.idle x.may;
        more = subst (λ ys. ActorSteps p (Exec i) (perform s i (opening x.buffer x.kind (p.start x.kind))) (perform_all s i ys)) (sym x.is)
            (more_steps p (Exec i) _ _ _ opens (after_steps i x.buffer x.kind x.frame x.rest x.idle x.next));
      }

  of_kind : (a : Actor) (ms : List (Move F)) → Kind p n s a ms → AsSteps p a s (perform_all s (thread_of a) ms)
  of_kind _ _ (Step a ms x) = single_steps a ms x
  of_kind _ _ (Call i ms x) = begins_steps i ms x

  pub as_steps : (a : Actor) (ms : List (Move F)) → parts p n s a ≡ Some ms → AsSteps p a s (perform_all s (thread_of a) ms)
  as_steps a ms e = of_kind a ms (kind_of p n s a ms e)

-- an opening as steps
pub opening_as_steps : {F : Type 0} (p : Program F) (n : Extent) (s : State F) (i : ℕ) (b : Buffer) (k : CallKind) (f : F) → slice_get s.threads i ≡ Some (record { core = Resting; buffer = b }) → next_call p s i ≡ Some k → opened_call p n i s.memory b k ≡ f → AsSteps p (Exec i) s (perform s i (opening b k f))
opening_as_steps p n s i b k f at may leads = record {
  first = perform s i (opening b k (p.start k));
  begins = call_step p s i b k at may;
  more = subst (λ g. ActorSteps p (Exec i) (perform s i (opening b k (p.start k))) (perform s i (opening b k g))) leads (opening_steps p s i b k at n);
}

pub moves_are_steps : (F : Type 0) → MovesAreSteps F
moves_are_steps F p n s s' a e =
    let (ms, em, is) = lates p n s s' a e in
    let x = as_steps p n s a ms em in
    (x.first, x.more.steps, x.begins, x.more.all, subst (λ u. Steps (step p) x.first x.more.steps u) is x.more.run)

-- WHERE A THREAD HAS NO MOVE

module _ {F : Type 0} (p : Program F) (n : Extent) (s : State F) (i : ℕ) where
  -- with nothing buffered each call that may begin has a move
  calls_begin : (k : CallKind) (f : F) (act : Action F) → call_parts [] k f act ≡ None → ⊥
  calls_begin k f act e = grind arith

  empty_of : (c : CompactCore F) (b : Buffer) → option_map one_part (drain_move c b) ≡ None → b ≡ []
  empty_of c [] e = refl
  empty_of c (x ∷ b) e = absurd (none-some _ (sym e))

  no_some : {X Y : Type 0} (g : X → Y) (o : Option X) → option_map g o ≡ None → o ≡ None
  no_some g None e = refl
  no_some g (Some x) e = absurd (none-some (g x) (sym e))

  abbrev Stuck : Option (CompactThread F) → Type 0
  Stuck o = (option_and_then (λ t. core_move p (next_call p s i) t.core t.buffer) o ≡ None) × (option_and_then (λ t. drain_move t.core t.buffer) o ≡ None)

  idle_stuck : (b : Buffer) (o : Option CallKind) → b ≡ [] → idle_parts p n i s.memory b o ≡ None → call_move p b o ≡ None
  idle_stuck b None is e = refl
  idle_stuck b (Some k) is e = absurd (calls_begin k (opened_call p n i s.memory [] k) (p.next (opened_call p n i s.memory [] k)) (subst (λ y. idle_parts p n i s.memory y (Some k) ≡ None) is e))

  core_stuck : (c : CompactCore F) (b : Buffer) → b ≡ [] → core_parts p n i s.memory (next_call p s i) c b ≡ None → core_move p (next_call p s i) c b ≡ None
  core_stuck Resting b is e = idle_stuck b (next_call p s i) is e
  core_stuck (Executing f) b is e = no_some one_part (action_move b (p.next f)) e
  core_stuck Halted b is e = refl

  stuck : (o : Option (CompactThread F)) → option_and_then (λ t. core_parts p n i s.memory (next_call p s i) t.core t.buffer) o ≡ None → option_and_then (λ t. option_map one_part (drain_move t.core t.buffer)) o ≡ None → Stuck o
  stuck None e d = (refl, refl)
  stuck (Some t) e d = (core_stuck t.core t.buffer (empty_of t.core t.buffer d) e, no_some one_part (drain_move t.core t.buffer) d)

  still : IsStill (late_move p n) s i → IsStill (step p) s i
  still z a at =
      let x = stuck (slice_get s.threads i) (no_some (perform_all s i) (parts p n s (Exec i)) (z (Exec i) refl)) (no_some (perform_all s i) (parts p n s (Drains i)) (z (Drains i) refl)) in
      by_actor x a at
    where
      by_actor : Stuck (slice_get s.threads i) → (a : Actor) → thread_of a ≡ i → step p s a ≡ None
      by_actor x (Exec j) at = subst (λ k. step p s (Exec k) ≡ None) (sym at) (ap (option_map (perform s i)) x.0)
      by_actor x (Drains j) at = subst (λ k. step p s (Drains k) ≡ None) (sym at) (ap (option_map (perform s i)) x.1)

pub moves_end_alike : (F : Type 0) → MovesEndAlike F
moves_end_alike F p n s i = (λ z a at. ap (option_map (perform_all s (thread_of a))) (no_parts p n s a (moves.no_move p s a (z a at))), still p n s i)

pub late_over : {F : Type 0} (p : Program F) (n : Extent) (s : State F) → Over (late_move p n) s → Over (step p) s
late_over p n s z a = still p n s (thread_of a) (λ b at. z b) a refl

-- WHOLE OPENINGS

module _ {F : Type 0} (p : Program F) (size : ℕ) (sound : CallKind → F → Bool) (rank : F → ℕ) (r : IsRanked p size sound rank) (reads : ℕ → Option ℕ) (b : Buffer) (k : CallKind) where
  falls : (f g : F) (act : Action F) → sound k f ≡ true → p.next f ≡ act → goes_on reads b act ≡ Some g → (sound k g ≡ true) × (rank g < rank f)
  falls f g (Silent h) sf at e = r.silent k f g sf (at ∙ ap Silent (same_Some h g e))
  falls f g (Load q l) sf at e = option_and_then_some _ (reads q) g e (λ v is there. subst (λ h. (sound k h ≡ true) × (rank h < rank f)) (same_Some (l v) g there) (r.load k f q l v sf at))
  falls f g (Store q v h) sf at e = absurd (none-some g e)
  falls f g (Barrier h) sf at e = r.barrier k f g sf (at ∙ ap Barrier (passes_fence b h g e))
    where
      passes_fence : (b : Buffer) (h g : F) → goes_on reads b (Barrier h) ≡ Some g → h ≡ g
      passes_fence [] h g e = same_Some h g e
      passes_fence (x ∷ b) h g e = absurd (none-some g e)
  falls f g (Locked q new l) sf at e = absurd (none-some g e)
  falls f g (Ret a) sf at e = absurd (none-some g e)
  falls f g (Fail x) sf at e = absurd (none-some g e)
  falls f g Cut sf at e = absurd (none-some g e)

  whole : (n : ℕ) (f : F) → sound k f ≡ true → rank f ≤ n → goes_on reads b (p.next (opened p reads n b f)) ≡ None
  whole zero f sf le = go (goes_on reads b (p.next f)) refl
    where
      go : (o : Option F) → goes_on reads b (p.next f) ≡ o → goes_on reads b (p.next f) ≡ None
      go None e = e
      go (Some g) e = let (sg, lt) = falls f g (p.next f) sf refl e in absurd (omega (arith, lt, le))
  whole (suc n) f sf le = go (λ g. whole n g) (goes_on reads b (p.next f)) refl
    where
      go : ((g : F) → sound k g ≡ true → rank g ≤ n → goes_on reads b (p.next (opened p reads n b g)) ≡ None) → (o : Option F) → goes_on reads b (p.next f) ≡ o → goes_on reads b (p.next (or_stay (opened p reads n b) f o)) ≡ None
      go further None e = e
      go further (Some g) e = let (sg, lt) = falls f g (p.next f) sf refl e in further g sg (omega (arith, lt, le))

pub openings_are_whole : (F : Type 0) → OpeningsAreWhole F
openings_are_whole F p size sound rank r reads n b k f sf le = whole p size sound rank r reads b k n f sf le
