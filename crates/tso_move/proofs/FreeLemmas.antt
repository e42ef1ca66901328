-- A free actor is the model's.
use Rattle.std.proofs.Common.{◌≡◌, ◌≢◌, ◌∙◌, ℕ, zero, suc, ◌+◌, ◌<◌, ◌≤◌, ◌⊎◌, inl, inr, Bool, true, false, ◌&&◌, ◌||◌, ◌==◌, List, [], ◌∷◌, map, length, Option, None, Some, slice_get, refl, sym, ap, subst, arith}
use Rattle.std.specs.Prelude.{is_none}
use Rattle.std.specs.List.{list_all}
use Rattle.std.specs.Option.{option_map}
use Rattle.std.proofs.lemmas.Bool.{and_parts, cases_eq, eqb-true}
use Rattle.std.proofs.lemmas.Option.{none-some, option_and_then_some, same_Some, slice_get_within}
use Rattle.tso_choose.specs.Needs.{is_apart}
use Rattle.tso_compact.specs.Plans.{kind_by, kind_of_move, kind_with_buffer}
use Rattle.tso_compact.specs.declared.sort.StepKind.{StepKind}
use Rattle.tso_compact.specs.declared.sort.StepKind.TheVariants as kinds
use Rattle.tso_crossing.proofs.AsSteps.{moves_end_alike}
use Rattle.tso_crossing.specs.Free as model
use Rattle.tso_crossing.specs.Late.{IsStill}
use Rattle.tso_crossing.specs.Moves.{call_parts, core_parts, late_move, one_part, opening, parts}
use Rattle.tso_foot.specs.Laws.{table_view}
use Rattle.tso_foot.specs.declared.table.ArrayTable.{ArrayTable}
use Rattle.tso_foot.specs.declared.table.Table.{Table}
use Rattle.tso_indep.proofs.ReasonLemmas.{quiet_action, reason_holds}
use Rattle.tso_indep.specs.declared.reason.Reason.TheVariants as reasons
use Rattle.tso_machine.specs.Activations.{Activation}
use Rattle.tso_machine.specs.Instructions.{next_action}
use Rattle.tso_machine.specs.Kinds.{kind_of_action}
use Rattle.tso_machine.specs.Programs.{program_of}
use Rattle.tso_machine.specs.declared.kinds.ActionKind.{ActionKind}
use Rattle.tso_machine.specs.declared.kinds.ActionKind.TheVariants as acts
use Rattle.tso_model.specs.Programs.{Action, Barrier, CallKind, Cut, Fail, Load, Locked, Ret, Silent, Store}
use Rattle.tso_model.specs.Prologue.{next_call}
use Rattle.tso_model.specs.Reasons.{Far, Future, Holds, NoReturn, Own, Returns}
use Rattle.tso_model.specs.Reduce.{Has}
use Rattle.tso_model.specs.States.{Answered, Began, Buffer, CompactCore, Executing, Halted, Log, Resting, Same}
use Rattle.tso_model.specs.Steps as steps
use Rattle.tso_model.specs.Table.{table_future}
use Rattle.tso_move.specs.Free.{HasNoFree, HasNoFreeBelow, IsFree, is_free_of, is_still, passes, passes_below}
use Rattle.tso_move.specs.Laws.{FreeIsTheModels}
use Rattle.tso_move.proofs.PartLemmas.{begun_parts}
use Rattle.tso_move.specs.Own.{extent_of}
use Rattle.tso_move.specs.Parts.{begun_in, opened_in, opened_kinds, own_buffer}
use Rattle.tso_prog.specs.declared.client.Client.{Client}
use Rattle.tso_state.proofs.ViewLemmas.{length-threads_view}
use Rattle.tso_state.specs.Actors.{actor_of, thread_of}
use Rattle.tso_state.specs.Views.{state_of}
use Rattle.tso_state.specs.WellFormed.{IsWellFormed}
use Rattle.tso_state.specs.declared.actor.Actor.{Actor}
use Rattle.tso_state.specs.declared.actor.Actor.TheVariants as actors
use Rattle.tso_state.specs.declared.state.State.{State}

-- ---- parts: one that touches memory writes nothing into the history

abbrev IsQuiet : steps.Move Activation → Type 0
IsQuiet m = (m.access ≡ steps.Nothing) ⊎ (m.log ≡ Same)

abbrev AllQuiet : List (steps.Move Activation) → Type 0
AllQuiet ms = (m : steps.Move Activation) → Has ms m → IsQuiet m

one_quiet : (m : steps.Move Activation) → IsQuiet m → AllQuiet (one_part m)
one_quiet m q x (inl is) = subst IsQuiet is q
one_quiet m q x (inr h) = absurd h

two_quiet : (m n : steps.Move Activation) → IsQuiet m → IsQuiet n → AllQuiet (m ∷ n ∷ [])
two_quiet m n q r x (inl is) = subst IsQuiet is q
two_quiet m n q r x (inr (inl is)) = subst IsQuiet is r
two_quiet m n q r x (inr (inr h)) = absurd h

mapped_some : {X Y : Type 0} (f : X → Y) (o : Option X) (y : Y) → option_map f o ≡ Some y → (x : X) × (o ≡ Some x) × (f x ≡ y)
mapped_some f None y e = absurd (none-some y e)
mapped_some f (Some x) y e = (x, refl, same_Some (f x) y e)

acted_quiet : (b : Buffer) (action : Action Activation) (ms : List (steps.Move Activation)) → option_map one_part (steps.action_move b action) ≡ Some ms → AllQuiet ms
acted_quiet b action ms e =
    let (m, at, is) = mapped_some one_part (steps.action_move b action) ms e in
    subst AllQuiet is (one_quiet m (quiet_action b action m at))

called_quiet : (b : Buffer) (k : CallKind) (f : Activation) (action : Action Activation) (ms : List (steps.Move Activation)) → option_map (λ m. opening b k f ∷ m ∷ []) (steps.action_move b action) ≡ Some ms → AllQuiet ms
called_quiet b k f action ms e =
    let (m, at, is) = mapped_some (λ m. opening b k f ∷ m ∷ []) (steps.action_move b action) ms e in
    subst AllQuiet is (two_quiet (opening b k f) m (inl refl) (quiet_action b action m at))

call_quiet : (b : Buffer) (k : CallKind) (f : Activation) (action : Action Activation) (ms : List (steps.Move Activation)) → call_parts b k f action ≡ Some ms → AllQuiet ms
call_quiet b k f Cut ms e = subst AllQuiet (same_Some (one_part (opening b k f)) ms e) (one_quiet (opening b k f) (inl refl))
call_quiet b k f (Silent g) ms e = called_quiet b k f (Silent g) ms e
call_quiet b k f (Load p r) ms e = called_quiet b k f (Load p r) ms e
call_quiet b k f (Store p v g) ms e = called_quiet b k f (Store p v g) ms e
call_quiet b k f (Barrier g) ms e = called_quiet b k f (Barrier g) ms e
call_quiet b k f (Locked p new r) ms e = called_quiet b k f (Locked p new r) ms e
call_quiet b k f (Ret a) ms e = called_quiet b k f (Ret a) ms e
call_quiet b k f (Fail n) ms e = called_quiet b k f (Fail n) ms e

core_quiet : (c : Client) (own : ArrayTable) (i : ℕ) (memory : List ℕ) (call : Option CallKind) (core : CompactCore Activation) (b : Buffer) (ms : List (steps.Move Activation))
    → core_parts (program_of c) (extent_of c own) i memory call core b ≡ Some ms → AllQuiet ms
core_quiet c own i memory None Resting b ms e = absurd (none-some ms e)
core_quiet c own i memory (Some k) Resting b ms e = call_quiet b k _ _ ms e
core_quiet c own i memory call (Executing f) b ms e = acted_quiet b ((program_of c).next f) ms e
core_quiet c own i memory call Halted b ms e = absurd (none-some ms e)

drain_quiet : (core : CompactCore Activation) (b : Buffer) (ms : List (steps.Move Activation)) → option_map one_part (steps.drain_move core b) ≡ Some ms → AllQuiet ms
drain_quiet core [] ms e = absurd (none-some ms e)
drain_quiet core (x ∷ rest) ms e = subst AllQuiet (same_Some _ ms e) (one_quiet _ (inr refl))

parts_quiet : (c : Client) (own : ArrayTable) (s : State) (a : steps.Actor) (ms : List (steps.Move Activation)) → parts (program_of c) (extent_of c own) (state_of s) a ≡ Some ms → AllQuiet ms
parts_quiet c own s (steps.Exec i) ms e =
    option_and_then_some _ (slice_get (state_of s).threads i) ms e (λ t here is. core_quiet c own i s.memory (next_call (program_of c) (state_of s) i) t.core t.buffer ms is)
parts_quiet c own s (steps.Drains i) ms e =
    option_and_then_some _ (slice_get (state_of s).threads i) ms e (λ t here is. drain_quiet t.core t.buffer ms is)

-- ---- another thread

no_step : {X : Type 0} (f : steps.Move Activation → X) (o : Option (steps.Move Activation)) → is_none (option_map kind_of_move o) ≡ true → option_map f o ≡ None
no_step f None h = refl
no_step f (Some m) h = absurd cc

still : (c : Client) (own : ArrayTable) (s : State) (j : ℕ) → is_still c s j ≡ true → IsStill (late_move (program_of c) (extent_of c own)) (state_of s) j
still c own s j h = (moves_end_alike Activation (program_of c) (extent_of c own) (state_of s) j).0 by_steps
  where
    by_steps : IsStill (steps.step (program_of c)) (state_of s) j
    by_steps (steps.Exec i) is =
        subst (λ n. steps.step (program_of c) (state_of s) (steps.Exec n) ≡ None) (sym is) (no_step _ (steps.move (program_of c) (state_of s) (steps.Exec j)) (and_parts _ _ h).0)
    by_steps (steps.Drains i) is =
        subst (λ n. steps.step (program_of c) (state_of s) (steps.Drains n) ≡ None) (sym is) (no_step _ (steps.move (program_of c) (state_of s) (steps.Drains j)) (and_parts _ _ h).1)

module _ (c : Client) (t : Table) (s : State) (j : ℕ) (w : IsWellFormed c s) where
  abbrev f : Future Activation
  f = table_future (program_of c) (table_view c t)

  -- one of the four reasons
  abbrev HasOne : steps.Access → Log → Type 0
  HasOne access log =
      Holds (program_of c) f (state_of s) [] access log j NoReturn ⊎
      (Holds (program_of c) f (state_of s) [] access log j Own ⊎ (Holds (program_of c) f (state_of s) [] access log j Far ⊎ Holds (program_of c) f (state_of s) [] access log j Returns))

  has_one : (access : steps.Access) (log : Log) → (access ≡ steps.Nothing) ⊎ (log ≡ Same) → is_apart c t s (kind_by access log) j ≡ true → HasOne access log
  has_one steps.Nothing Same st h = inr (inl (reason_holds c t s [] j w steps.Nothing Same reasons.Own st refl))
  has_one steps.Nothing (Began k) st h = inl (reason_holds c t s [] j w steps.Nothing (Began k) reasons.NoReturn st h)
  has_one steps.Nothing (Answered a) st h = inr (inr (inr (reason_holds c t s [] j w steps.Nothing (Answered a) reasons.Return st refl)))
  has_one (steps.Read p) log st h = inr (inr (inl (reason_holds c t s [] j w (steps.Read p) log reasons.Far st h)))
  has_one (steps.Write p v) log st h = inr (inr (inl (reason_holds c t s [] j w (steps.Write p v) log reasons.Far st h)))
  has_one (steps.Update p g) log st h = inr (inr (inl (reason_holds c t s [] j w (steps.Update p g) log reasons.Far st h)))

  passes_alone : (m : steps.Move Activation) → IsQuiet m → is_apart c t s (kind_of_move m) j ≡ true → model.PassesAlone (program_of c) f (state_of s) m j
  passes_alone m quiet h = elim (has_one m.access m.log quiet h) [
    | inl x ↦ model.ByNoReturn x
    | inr (inl x) ↦ model.ByOwn x
    | inr (inr (inl x)) ↦ model.ByFar x
    | inr (inr (inr x)) ↦ model.ByReturns x
  ]

-- ---- all threads

all_mapped : (test : StepKind → Bool) (ms : List (steps.Move Activation)) → list_all test (map kind_of_move ms) ≡ true → (m : steps.Move Activation) → Has ms m → test (kind_of_move m) ≡ true
all_mapped test [] h m has = absurd has
all_mapped test (n ∷ rest) h m (inl is) = ap (λ x. test (kind_of_move x)) (sym is) ∙ (and_parts (test (kind_of_move n)) (list_all test (map kind_of_move rest)) h).0
all_mapped test (n ∷ rest) h m (inr has) = all_mapped test rest (and_parts (test (kind_of_move n)) (list_all test (map kind_of_move rest)) h).1 m has

or_cases : (x y : Bool) → (x || y) ≡ true → (x ≡ true) ⊎ (y ≡ true)
or_cases true y h = inl refl
or_cases false y h = inr h

pub passed : (c : Client) (t : Table) (s : State) (i : ℕ) (kinds : List StepKind) (n j : ℕ) → passes_below c t s i kinds n ≡ true → j < n → j ≢ i → passes c t s kinds j ≡ true
passed c t s i kinds zero j h lt other = absurd (omega (arith, lt))
passed c t s i kinds (suc n) j h lt other =
    let (before, last) = and_parts (passes_below c t s i kinds n) (n == i || passes c t s kinds n) h in
    elim (cases_eq j n) [
      | inl same ↦ elim (or_cases (n == i) (passes c t s kinds n) last) [
        | inl is ↦ absurd (other (same ∙ eqb-true n i is))
        | inr holds ↦ ap (passes c t s kinds) same ∙ holds
      ]
      | inr less ↦ passed c t s i kinds n j before (omega (arith, lt, less)) other
    ]

thread_view : (a : Actor) → steps.thread_of (actor_of a) ≡ thread_of a
thread_view (actors.Exec i) = refl
thread_view (actors.Drain i) = refl

pub free_is_the_models : (c : Client) → FreeIsTheModels c
free_is_the_models c own t s a w free =
    let p = program_of c in
    let (ms, at, kinds) = mapped_some (map kind_of_move) (parts p (extent_of c own) (state_of s) (actor_of a)) free.kinds free.parts in (
      ms,
      at,
      λ j lt other.
          let inside : j < length s.threads = subst (λ n. j < n) (length-threads_view s.history s.threads) lt in
          let apart : j ≢ thread_of a = λ e. other (e ∙ sym (thread_view a)) in
          let holds = passed c t s (thread_of a) free.kinds (length s.threads) j free.passes inside apart in
          elim (or_cases (list_all (λ kind. is_apart c t s kind j) free.kinds) (is_still c s j) holds) [
            | inl all ↦ inr (λ m has. passes_alone c t s j w m (parts_quiet c own s (actor_of a) ms at m has)
                (all_mapped (λ kind. is_apart c t s kind j) ms (ap (list_all (λ kind. is_apart c t s kind j)) kinds ∙ all) m has))
            | inr h ↦ inl (still c own s j h)
          ],
    )

-- one thread more
pub passes_more : (c : Client) (t : Table) (s : State) (i : ℕ) (kinds : List StepKind) (n : ℕ) (b : Bool) → passes_below c t s i kinds n ≡ true → (n == i || passes c t s kinds n) ≡ b → passes_below c t s i kinds (n + 1) ≡ b
passes_more c t s i kinds n b so_far next =
    let k : n + 1 ≡ suc n = omega arith in
    ap (passes_below c t s i kinds) k ∙ ap (λ x. x && (n == i || passes c t s kinds n)) so_far ∙ next

-- one that does not pass is enough
pub not_passed : (c : Client) (t : Table) (s : State) (i : ℕ) (kinds : List StepKind) (n m : ℕ) → passes_below c t s i kinds n ≡ false → n ≤ m → passes_below c t s i kinds m ≡ false
not_passed c t s i kinds n zero fails le = let k : zero ≡ n = omega (arith, le) in ap (passes_below c t s i kinds) k ∙ fails
not_passed c t s i kinds n (suc m) fails le = elim (cases_eq n (suc m)) [
  | inl same ↦ ap (passes_below c t s i kinds) (sym same) ∙ fails
  | inr less ↦ ap (λ x. x && (m == i || passes c t s kinds m)) (not_passed c t s i kinds n m fails (omega (arith, le, less)))
]

-- ---- the begin of a call by itself

begin_passes : (c : Client) (t : Table) (s : State) (rest : List StepKind) (j : ℕ) → passes c t s (kinds.Call ∷ rest) j ≡ true → passes c t s (kinds.Call ∷ []) j ≡ true
begin_passes c t s rest j h = elim (or_cases (list_all (λ kind. is_apart c t s kind j) (kinds.Call ∷ rest)) (is_still c s j) h) [
  | inl all ↦ first (is_apart c t s kinds.Call j) (is_still c s j) (and_parts (is_apart c t s kinds.Call j) (list_all (λ kind. is_apart c t s kind j) rest) all).0
  | inr is ↦ second ((is_apart c t s kinds.Call j) && true) (is_still c s j) is
]
  where
    first : (x y : Bool) → x ≡ true → ((x && true) || y) ≡ true
    first true y e = refl
    first false y e = let clash : false ≡ true = e in absurd cc

    second : (x y : Bool) → y ≡ true → (x || y) ≡ true
    second true y e = refl
    second false y e = e

begin_below : (c : Client) (t : Table) (s : State) (i : ℕ) (rest : List StepKind) (n : ℕ) → passes_below c t s i (kinds.Call ∷ rest) n ≡ true → passes_below c t s i (kinds.Call ∷ []) n ≡ true
begin_below c t s i rest zero h = refl
begin_below c t s i rest (suc n) h =
    let (before, last) = and_parts (passes_below c t s i (kinds.Call ∷ rest) n) (n == i || passes c t s (kinds.Call ∷ rest) n) h in
    both (passes_below c t s i (kinds.Call ∷ []) n) (n == i) (passes c t s (kinds.Call ∷ []) n) (begin_below c t s i rest n before)
    (elim (or_cases (n == i) (passes c t s (kinds.Call ∷ rest) n) last) [ inl own ↦ inl own | inr other ↦ inr (begin_passes c t s rest n other) ])
  where
    both : (x y z : Bool) → x ≡ true → (y ≡ true) ⊎ (z ≡ true) → (x && (y || z)) ≡ true
    both true true z e h = refl
    both true false z e (inl h) = let clash : false ≡ true = h in absurd cc
    both true false z e (inr h) = h
    both false y z e h = let clash : false ≡ true = e in absurd cc

-- the first part of a move that begins a call is its begin
opened_first : (b : Buffer) (kind : ActionKind) (found : List StepKind) → opened_kinds b kind ≡ Some found → (rest : List StepKind) × (kinds.Call ∷ rest ≡ found)
opened_first b acts.Cut found e = ([], same_Some _ found e)
opened_first b acts.Local found e = let (x, at, is) = mapped_some (λ x. kinds.Call ∷ x ∷ []) (kind_with_buffer b acts.Local) found e in (x ∷ [], is)
opened_first b (acts.Load p) found e = let (x, at, is) = mapped_some (λ x. kinds.Call ∷ x ∷ []) (kind_with_buffer b (acts.Load p)) found e in (x ∷ [], is)
opened_first b acts.Barrier found e = let (x, at, is) = mapped_some (λ x. kinds.Call ∷ x ∷ []) (kind_with_buffer b acts.Barrier) found e in (x ∷ [], is)
opened_first b (acts.Locked p) found e = let (x, at, is) = mapped_some (λ x. kinds.Call ∷ x ∷ []) (kind_with_buffer b (acts.Locked p)) found e in (x ∷ [], is)
opened_first b acts.Return found e = let (x, at, is) = mapped_some (λ x. kinds.Call ∷ x ∷ []) (kind_with_buffer b acts.Return) found e in (x ∷ [], is)

-- a free actor's call may begin before all that other threads do
pub begin_is_free : (c : Client) (own : ArrayTable) (t : Table) (s : State) (a : Actor) (k : CallKind) → begun_in c s a ≡ Some k → IsFree c own t s a → is_free_of c t s (thread_of a) (kinds.Call ∷ []) ≡ true
begin_is_free c own t s a k begun free =
    let (rest, is) = opened_first (own_buffer s (thread_of a)) (kind_of_action (next_action c (opened_in c own s (thread_of a) k))) free.kinds (sym (begun_parts c own s a k begun) ∙ free.parts) in
    begin_below c t s (thread_of a) rest (length s.threads) (ap (is_free_of c t s (thread_of a)) is ∙ free.passes)

-- ---- a free actor is one of the state's threads

inside : (c : Client) (own : ArrayTable) (s : State) (a : Actor) (ms : List (steps.Move Activation)) → parts (program_of c) (extent_of c own) (state_of s) (actor_of a) ≡ Some ms → thread_of a < length s.threads
inside c own s (actors.Exec i) ms e =
    option_and_then_some _ (slice_get (state_of s).threads i) ms e (λ t here is. subst (λ n. i < n) (length-threads_view s.history s.threads) (slice_get_within (state_of s).threads i t here))
inside c own s (actors.Drain i) ms e =
    option_and_then_some _ (slice_get (state_of s).threads i) ms e (λ t here is. subst (λ n. i < n) (length-threads_view s.history s.threads) (slice_get_within (state_of s).threads i t here))

pub none_is_free : (c : Client) (own : ArrayTable) (t : Table) (s : State) (n : ℕ) → HasNoFreeBelow c own t s n → length s.threads ≤ n → HasNoFree c own t s
none_is_free c own t s n below all a free =
    let (ms, at, is) = mapped_some (map kind_of_move) (parts (program_of c) (extent_of c own) (state_of s) (actor_of a)) free.kinds free.parts in
    let lt = inside c own s a ms at in
    below a (omega (arith, lt, all)) free
