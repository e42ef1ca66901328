-- States after steps.
use Rattle.std.proofs.Common.{◌≡◌, ℕ, ◌<◌, ◌^◌, List, [], length, map, Option, Some, None, refl, sym, ap, subst, ◌∙◌, arith, slice_get, slice_set}
use Rattle.std.specs.Prelude.{IsSome, IfSome, MatchOption}
use Rattle.std.specs.Option.{option_map, option_and_then}
use Rattle.std.proofs.lemmas.Bool.{false≢true}
use Rattle.std.proofs.lemmas.List.{length-map, length-set}
use Rattle.std.proofs.lemmas.Option.{get_or_from_slice_get, slice_get_within, slice_get-get_or}
use Rattle.tso_compact.proofs.PerformLemmas.{AreParts, performed-view}
use Rattle.tso_compact.specs.Motions.{Fits, access_of, log_of, move_of, thread_after}
use Rattle.tso_compact.specs.Plans.{HasStep, IsStep, motion_view, procedure_in, thread_in}
use Rattle.tso_compact.specs.declared.motion.Motion.{Motion}
use Rattle.tso_compact.specs.declared.motion.Motion.TheVariants as the
use Rattle.tso_hist.specs.declared.call.Call.{Call}
use Rattle.tso_hist.specs.Views.{called_view, history_view}
use Rattle.tso_machine.specs.Activations.{Activation}
use Rattle.tso_machine.specs.Programs.{program_of}
use Rattle.tso_machine.specs.declared.buffer.Entry.{Entry}
use Rattle.tso_model.specs.Prologue.{next_call}
use Rattle.tso_model.specs.States.{Answered, Began, Called, CompactThread, Log, Same, State as ModelState, logged}
use Rattle.tso_model.specs.Steps.{Move, core_move, memory_after, move, perform, word_read}
use Rattle.tso_parts.specs.Numbers.{Extends}
use Rattle.tso_prog.specs.declared.client.Client.{Client}
use Rattle.tso_state.proofs.ViewLemmas.{slice_get-threads_view}
use Rattle.tso_state.specs.Actors.{actor_of, thread_of}
use Rattle.tso_state.specs.Views.{state_of, thread_view}
use Rattle.tso_state.specs.declared.actor.Actor.{Actor}
use Rattle.tso_state.specs.declared.actor.Actor.TheVariants.{Drain, Exec}
use Rattle.tso_state.specs.declared.state.Core.TheVariants.{Idle}
use Rattle.tso_state.specs.declared.state.State.{State}
use Rattle.tso_state.specs.declared.state.Thread.{Thread}
use Rattle.tso_keys.specs.declared.key.Key.{Key}
use Rattle.tso_keys.specs.declared.parts.Parts.{Parts}
use Rattle.tso_keys.specs.Keys.{Grows, IsKeyOf, IsKept, state_at}
use Rattle.tso_store.specs.Remembered.{FitsAt, HasNext, IsDrained, IsLeft, IsNextMotion, IsRun, CanRun}
use Rattle.tso_store.specs.Stepping.{IsLogged, IsPlanned, IsStepOf, with_thread}
use Rattle.tso_keys.proofs.Rows.{more_numbers, number_at, none_at, row_set}

-- ---- moves and steps

some_step : (s : ModelState Activation) (i : ℕ) (o : Option (Move Activation)) (m : Move Activation) → o ≡ Some m → option_map (perform s i) o ≡ Some (perform s i m)
some_step s i o m e = ap (option_map (perform s i)) e

pub stepped_by : (c : Client) (s t : State) (a : Actor) (m : Move Activation) → move (program_of c) (state_of s) (actor_of a) ≡ Some m → state_of t ≡ perform (state_of s) (thread_of a) m → IsStep c s a t
stepped_by c s t (Exec i) m e is = some_step (state_of s) i _ m e ∙ ap Some (sym is)
stepped_by c s t (Drain i) m e is = some_step (state_of s) i _ m e ∙ ap Some (sym is)

no_step_of : (s : ModelState Activation) (i : ℕ) (o : Option (Move Activation)) → o ≡ None → IsSome (option_map (perform s i) o) → ⊥
no_step_of s i None e h = false≢true h
no_step_of s i (Some m) e h = absurd cc

has_step_of : (s : ModelState Activation) (i : ℕ) (o : Option (Move Activation)) (m : Move Activation) → o ≡ Some m → IsSome (option_map (perform s i) o)
has_step_of s i None m e = absurd (let h : None ≡ Some m = e in cc)
has_step_of s i (Some n) m e = refl

no_move : (c : Client) (s : State) (a : Actor) → move (program_of c) (state_of s) (actor_of a) ≡ None → HasStep c s a → ⊥
no_move c s (Exec i) e has = no_step_of (state_of s) i _ e has
no_move c s (Drain i) e has = no_step_of (state_of s) i _ e has

some_move : (c : Client) (s : State) (a : Actor) (m : Move Activation) → move (program_of c) (state_of s) (actor_of a) ≡ Some m → HasStep c s a
some_move c s (Exec i) m e = has_step_of (state_of s) i _ m e
some_move c s (Drain i) m e = has_step_of (state_of s) i _ m e

-- what is planned in a state
pub plan_is : (c : Client) (s : State) (a : Actor) (r : Option Motion)
    → option_map (motion_view s (thread_of a)) r ≡ move (program_of c) (state_of s) (actor_of a)
    → IfSome r (λ m. thread_of a < length s.threads)
    → IfSome r (Fits (thread_in s (thread_of a)))
    → MatchOption r (HasStep c s a → ⊥) (IsPlanned c s a)
plan_is c s a None is there fits = no_move c s a (sym is)
plan_is c s a (Some m) is there fits = record { is = sym is; there = there; fits = fits }

pub planned_has : (c : Client) (s : State) (a : Actor) (m : Motion) → IsPlanned c s a m → HasStep c s a
planned_has c s a m planned = some_move c s a _ planned.is

-- a thread that is not there has no step
nothing_there : (c : Client) (s : State) (a : Actor) → slice_get (state_of s).threads (thread_of a) ≡ None → move (program_of c) (state_of s) (actor_of a) ≡ None
nothing_there c s (Exec i) none = ap (option_and_then _) none
nothing_there c s (Drain i) none = ap (option_and_then _) none

pub no_thread : (c : Client) (s : State) (a : Actor) → slice_get s.threads (thread_of a) ≡ None → HasStep c s a → ⊥
no_thread c s a none =
    no_move c s a (nothing_there c s a (slice_get-threads_view s.history s.threads (thread_of a) ∙ ap (option_map (thread_view (procedure_in s (thread_of a)))) none))

pub no_number : (c : Client) (p : Parts) (k : Key) (a : Actor) → IsKept c p k → length p.threads < 2 ^ 32 → slice_get k.threads (thread_of a) ≡ None → HasStep c (state_at p k) a → ⊥
no_number c p k a kept small e = no_thread c (state_at p k) a (none_at p.threads k.threads (state_at p k).threads (thread_of a) small kept.key.threads e)

-- ---- the state after a step

logged_length : (h : List (List Called)) (i : ℕ) (l : Log) → length (logged h i l) ≡ length h
logged_length h i Same = refl
logged_length h i (Began k) = length-set h i _
logged_length h i (Answered a) = length-set h i _

pub history_length : (h g : List (List Call)) (i : ℕ) (l : Log) → history_view g ≡ logged (history_view h) i l → length g ≡ length h
history_length h g i l e =
    sym (length-map g (map called_view)) ∙ ap (λ (v : List (List Called)). length v) e ∙ logged_length (history_view h) i l ∙ length-map h (map called_view)

pub thread_at : (s : State) (i : ℕ) → i < length s.threads → slice_get s.threads i ≡ Some (thread_in s i)
thread_at s i lt = slice_get-get_or s.threads i (record { core = Idle; buffer = [] }) lt

-- the thread of a number of the key
own_thread : (p : Parts) (k : Key) (s : State) (i own : ℕ) (t : Thread) → length p.threads < 2 ^ 32 → IsKeyOf p k s → slice_get k.threads i ≡ Some own → slice_get s.threads i ≡ Some t → slice_get p.threads own ≡ Some t
own_thread p k s i own t small is at here = sym (number_at p.threads k.threads s.threads i own small is.threads at) ∙ here

pub own_here : (c : Client) (p : Parts) (k : Key) (a : Actor) (own : ℕ) (m : Motion) → IsKept c p k → length p.threads < 2 ^ 32 → IsPlanned c (state_at p k) a m → slice_get k.threads (thread_of a) ≡ Some own
    → slice_get p.threads own ≡ Some (thread_in (state_at p k) (thread_of a))
own_here c p k a own m kept small planned at = own_thread p k (state_at p k) (thread_of a) own _ small kept.key at (thread_at (state_at p k) (thread_of a) planned.there)

pub planned_thread : (c : Client) (p : Parts) (k : Key) (a : Actor) (own : ℕ) (m : Motion) → IsKept c p k → length p.threads < 2 ^ 32 → IsPlanned c (state_at p k) a m → slice_get k.threads (thread_of a) ≡ Some own
    → (t : Thread) × (slice_get p.threads own ≡ Some t)
planned_thread c p k a own m kept small planned at =
    (thread_in (state_at p k) (thread_of a), own_here c p k a own m kept small planned at)

pub planned_fits : (c : Client) (p : Parts) (k : Key) (a : Actor) (own : ℕ) (m : Motion) → IsKept c p k → length p.threads < 2 ^ 32 → IsPlanned c (state_at p k) a m → slice_get k.threads (thread_of a) ≡ Some own → FitsAt p.threads own m
planned_fits c p k a own m kept small planned at t here =
    let there = own_here c p k a own m kept small planned at in
    let both : Some t ≡ Some (thread_in (state_at p k) (thread_of a)) = sym here ∙ there in
    let same : t ≡ thread_in (state_at p k) (thread_of a) = cc in
    let Q : Thread → Type 0 = λ u. Fits u m in
    subst Q (sym same) planned.fits

-- the state after a step, seen in the model
pub after_view : (c : Client) (p : Parts) (k : Key) (a : Actor) (m : Motion) (h : List (List Call)) → IsKept c p k → IsPlanned c (state_at p k) a m
    → history_view h ≡ logged (history_view (state_at p k).history) (thread_of a) (log_of m)
    → state_of (record {
      memory = memory_after (state_at p k).memory (access_of (thread_in (state_at p k) (thread_of a)) m);
      threads = slice_set (state_at p k).threads (thread_of a) (thread_after (thread_in (state_at p k) (thread_of a)) m (word_read (state_at p k).memory (access_of (thread_in (state_at p k) (thread_of a)) m)));
      history = h;
    }) ≡ perform (state_of (state_at p k)) (thread_of a) (motion_view (state_at p k) (thread_of a) m)
after_view c p k a m h kept planned is =
    let s : State = state_at p k in
    let i = thread_of a in
    let t : Thread = thread_in s i in
    let u : Thread = thread_after t m (word_read s.memory (access_of t m)) in
    let parts : AreParts s i m t (memory_after s.memory (access_of t m)) u (slice_set s.threads i u) h = record {
      inside = omega (arith, planned.there, kept.fits.threads, kept.fits.lists);
      there = refl;
      memory_is = refl;
      thread_is = refl;
      threads_are = refl;
      history_is = is;
    } in
    performed-view s i m t _ u _ h parts

pub stepped : (c : Client) (old new : Parts) (k : Key) (a : Actor) (m : Motion) (own nm nh nt : ℕ) → IsKept c old k → length old.threads < 2 ^ 32 → Extends old.threads new.threads
    → IsPlanned c (state_at old k) a m
    → slice_get k.threads (thread_of a) ≡ Some own
    → slice_get new.memories nm ≡ Some (memory_after (state_at old k).memory (access_of (thread_in (state_at old k) (thread_of a)) m))
    → IsLogged (state_at old k).history (thread_of a) m new.histories nh
    → IsLeft old.threads new.threads own m (word_read (state_at old k).memory (access_of (thread_in (state_at old k) (thread_of a)) m)) nt
    → IsStepOf c old k a new (record { memory = nm; history = nh; threads = slice_set k.threads (thread_of a) nt })
stepped c old new k a m own nm nh nt kept small ext planned at mem log left =
    let s : State = state_at old k in
    let i = thread_of a in
    let t : Thread = thread_in s i in
    let u : Thread = thread_after t m (word_read s.memory (access_of t m)) in
    let here = thread_at s i planned.there in
    let after : State = record { memory = memory_after s.memory (access_of t m); threads = slice_set s.threads i u; history = log.history } in
    record {
      state = after;
      step = stepped_by c s after a (motion_view s i m) planned.is (after_view c old k a m log.history kept planned log.is);
      key = record {
        memory = mem;
        history = log.at;
        threads = row_set new.threads k.threads s.threads i nt u t (more_numbers old.threads new.threads k.threads s.threads ext kept.key.threads) here (left t (own_thread old k s i own t small kept.key at here));
        wide = length-set k.threads i nt ∙ kept.key.wide;
      };
      fits = record {
        threads = length-set s.threads i u ∙ kept.fits.threads;
        lists = history_length s.history log.history i (log_of m) log.is ∙ kept.fits.lists;
      };
    }

-- ---- the state after a step that changes only its thread

pub next_move : (c : Client) (s : State) (i : ℕ) (t : Thread) (m : Motion) → slice_get s.threads i ≡ Some t → IsNextMotion c (procedure_in s i) t m
    → move (program_of c) (state_of s) (actor_of (Exec i)) ≡ Some (move_of (procedure_in s i) t m)
next_move c s i t m here next =
    let p = program_of c in
    let there : slice_get (state_of s).threads i ≡ Some (thread_view (procedure_in s i) t) =
    slice_get-threads_view s.history s.threads i ∙ ap (option_map (thread_view (procedure_in s i))) here in
    ap (λ o. option_and_then (λ (u : CompactThread Activation). core_move p (next_call p (state_of s) i) u.core u.buffer) o) there
    ∙ next.moves (next_call p (state_of s) i)

thread_here : (s : State) (i : ℕ) (t : Thread) → slice_get s.threads i ≡ Some t → thread_in s i ≡ t
thread_here s i t here = get_or_from_slice_get s.threads i t _ here

next_planned : (c : Client) (s : State) (i : ℕ) (t : Thread) (m : Motion) → slice_get s.threads i ≡ Some t → IsNextMotion c (procedure_in s i) t m
    → move (program_of c) (state_of s) (actor_of (Exec i)) ≡ Some (motion_view s i m)
next_planned c s i t m here next = next_move c s i t m here next ∙ ap (λ v. Some (move_of (procedure_in s i) v m)) (sym (thread_here s i t here))

pub can_run : (c : Client) (p : Parts) (k : Key) (i own : ℕ) → IsKept c p k → length p.threads < 2 ^ 32 → slice_get k.threads i ≡ Some own → CanRun c (procedure_in (state_at p k) i) p.threads own → HasStep c (state_at p k) (Exec i)
can_run c p k i own kept small at (m, has) =
    some_move c (state_at p k) (Exec i) _ (next_move c (state_at p k) i has.from m (number_at p.threads k.threads (state_at p k).threads i own small kept.key.threads at ∙ has.from_is) has.next)

-- what is known of a thread's next step is planned where the thread stands
pub known_plans : (c : Client) (p : Parts) (k : Key) (i own : ℕ) (o : Option Motion) → IsKept c p k → length p.threads < 2 ^ 32 → slice_get k.threads i ≡ Some own
    → IfSome o (HasNext c (procedure_in (state_at p k) i) p.threads own) → IfSome o (IsPlanned c (state_at p k) (Exec i))
known_plans c p k i own None kept small at has = tt
known_plans c p k i own (Some m) kept small at has =
    let s : State = state_at p k in
    let here : slice_get s.threads i ≡ Some has.from = number_at p.threads k.threads s.threads i own small kept.key.threads at ∙ has.from_is in
    let Q : Thread → Type 0 = λ u. Fits u m in
    record {
      is = next_planned c s i has.from m here has.next;
      there = slice_get_within s.threads i has.from here;
      fits = subst Q (sym (thread_here s i has.from here)) has.next.fits;
    }

pub ran : (c : Client) (old new : Parts) (k : Key) (i own nt : ℕ) → IsKept c old k → Grows old new → length old.threads < 2 ^ 32 → slice_get k.threads i ≡ Some own → IsRun c (procedure_in (state_at old k) i) new.threads own nt
    → IsStepOf c old k (Exec i) new (with_thread k i nt)
ran c old new k i own nt kept grows small at run =
    let s : State = state_at old k in
    let t = run.from in
    let u = run.to in
    let m = run.runs.motion in
    let pure = run.runs.own in
    let row = more_numbers old.threads new.threads k.threads s.threads grows.threads kept.key.threads in
    let here : slice_get s.threads i ≡ Some t = number_at new.threads k.threads s.threads i own (grows.small small) row at ∙ run.from_is in
    let parts : AreParts s i m t s.memory u (slice_set s.threads i u) s.history = record {
      inside = omega (arith, slice_get_within s.threads i t here, kept.fits.threads, kept.fits.lists);
      there = thread_here s i t here;
      memory_is = sym (ap (memory_after s.memory) pure.access);
      thread_is = sym run.runs.leaves ∙ ap (λ x. thread_after t m (word_read s.memory x)) (sym pure.access);
      threads_are = refl;
      history_is = sym (ap (logged (history_view s.history) i) pure.log);
    } in
    let after : State = record { memory = s.memory; threads = slice_set s.threads i u; history = s.history } in
    record {
      state = after;
      step = stepped_by c s after (Exec i) (motion_view s i m) (next_planned c s i t m here pure.next) (performed-view s i m t s.memory u _ s.history parts);
      key = record {
        memory = grows.memories k.memory s.memory kept.key.memory;
        history = grows.histories k.history s.history kept.key.history;
        threads = row_set new.threads k.threads s.threads i nt u t row here run.to_is;
        wide = length-set k.threads i nt ∙ kept.key.wide;
      };
      fits = record { threads = length-set s.threads i u ∙ kept.fits.threads; lists = kept.fits.lists };
    }

-- ---- a drain

pub left_drained : (old new : List Thread) (own nt w : ℕ) (e : Entry) → Extends old new → IsDrained new own nt → IsLeft old new own (the.Drain e) w nt
left_drained old new own nt w e ext d t at =
    let both : Some t ≡ Some d.from = sym (ext own t at) ∙ d.from_is in
    let same : t ≡ d.from = cc in
    d.to_is ∙ ap (λ (v : Thread). Some (thread_after v (the.Drain e) w)) (sym same)

-- ---- there is a step

of_some : {X : Type 0} (o : Option X) (y : X) → o ≡ Some y → IsSome o
of_some None y e = absurd (let h : None ≡ Some y = e in cc)
of_some (Some x) y e = refl

pub step_has : (c : Client) (old : Parts) (k : Key) (a : Actor) (new : Parts) (next : Key) → IsStepOf c old k a new next → HasStep c (state_at old k) a
step_has c old k a new next by = of_some _ (state_of by.state) by.step
