-- Runs of free actors' moves are determined, and so is the least table of arrays: whether the runs behind a state's moves are met is told
-- actor by actor.
use Rattle.std.proofs.Common.{◌≡◌, ◌∙◌, ℕ, ◌+◌, ◌<◌, ◌≤◌, inl, inr, Bool, true, false, List, Option, Some, None, length, refl, sym, subst, arith}
use Rattle.std.specs.Option.{option_map}
use Rattle.std.specs.Prelude.{◌↔◌, Contains, IfOk, IsSome, IsTrue, is_some, Result, Ok, Err}
use Rattle.std.specs.declared.alloc.AllocError.{AllocError}
use Rattle.std.proofs.lemmas.Bool.{cases_eq, cases_lt}
use Rattle.std.proofs.lemmas.Option.{none-some, same_Some}
use Rattle.tso_choose.proofs.ChoosingLemmas.{same_actor}
use Rattle.tso_choose.proofs.NeedLemmas.{nobody}
use Rattle.tso_choose.specs.Needs.{is_enabled}
use Rattle.tso_compact.specs.Laws.{initial_of}
use Rattle.tso_compact.specs.Plans.{kind_of_move}
use Rattle.tso_crossing.proofs.AsSteps.{moves_end_alike}
use Rattle.tso_crossing.specs.Late.{IsStill}
use Rattle.tso_crossing.specs.Moves.{late_move}
use Rattle.tso_foot.specs.declared.table.ArrayTable.{ArrayTable}
use Rattle.tso_foot.specs.declared.table.Table.{Table}
use Rattle.tso_judge.proofs.LeastTables.{same_least}
use Rattle.tso_judge.specs.Moved.{IsMetIfMoved, IsThreadMet}
use Rattle.tso_judge.specs.Valid.{MeetsInitial}
use Rattle.tso_machine.specs.Activations.{Activation}
use Rattle.tso_machine.specs.Programs.{program_of}
use Rattle.tso_model.specs.Steps as steps
use Rattle.tso_move.specs.Crossed.{IsMetAfter, IsMetFrom}
use Rattle.tso_move.specs.Free.{IsLowestFree}
use Rattle.tso_move.specs.Own.{extent_of}
use Rattle.tso_move.specs.Runs.{Goes, HasMove, IsMove, IsRun, Stops, StopsAt}
use Rattle.tso_prog.specs.declared.client.Client.{Client}
use Rattle.tso_rec.specs.Conditions.{IsLeast, IsOver, MovesAreMet}
use Rattle.tso_state.specs.Actors.{number_of, thread_of}
use Rattle.tso_state.specs.Views.{state_of}
use Rattle.tso_state.specs.declared.actor.Actor.{Actor}
use Rattle.tso_state.specs.declared.actor.Actor.TheVariants.{Exec, Drain}
use Rattle.tso_state.specs.WellFormed.{IsWellFormed}
use Rattle.tso_state.specs.declared.state.State.{State}
use Rattle.tso_confluence.proofs.Views.{same_state}

-- ---- a thread has a move exactly where it has a step

has_some : {X : Type 0} (o : Option X) (x : X) → o ≡ Some x → IsSome o
has_some None x e = absurd (none-some x e)
has_some (Some y) x e = refl

some_is_not : {X : Type 0} (o : Option X) → o ≡ None → IsSome o → ⊥
some_is_not None e has = let clash : false ≡ true = has in cc
some_is_not (Some x) e has = none-some x (sym e)

none_is : {X : Type 0} (o : Option X) → (IsSome o → ⊥) → o ≡ None
none_is None fails = refl
none_is (Some x) fails = absurd (fails refl)

off_step : {X Y Z : Type 0} (f : X → Y) (k : X → Z) (o : Option X) → is_some (option_map k o) ≡ false → option_map f o ≡ None
off_step f k None e = refl
off_step f k (Some m) e = let clash : true ≡ false = e in cc

step_off : {X Y Z : Type 0} (f : X → Y) (k : X → Z) (o : Option X) → option_map f o ≡ None → is_some (option_map k o) ≡ false
step_off f k None e = refl
step_off f k (Some m) e = absurd (none-some (f m) (sym e))

module _ (c : Client) (own : ArrayTable) (s : State) where
  steps_still : (i : ℕ) → is_enabled c s (Exec i) ≡ false → is_enabled c s (Drain i) ≡ false → IsStill (steps.step (program_of c)) (state_of s) i
  steps_still i core buffer (steps.Exec j) is =
      subst (λ n. steps.step (program_of c) (state_of s) (steps.Exec n) ≡ None) (sym is) (off_step (steps.perform (state_of s) i) kind_of_move (steps.move (program_of c) (state_of s) (steps.Exec i)) core)
  steps_still i core buffer (steps.Drains j) is =
      subst (λ n. steps.step (program_of c) (state_of s) (steps.Drains n) ≡ None) (sym is) (off_step (steps.perform (state_of s) i) kind_of_move (steps.move (program_of c) (state_of s) (steps.Drains i)) buffer)

  no_move : (i : ℕ) → is_enabled c s (Exec i) ≡ false → is_enabled c s (Drain i) ≡ false → IsStill (late_move (program_of c) (extent_of c own)) (state_of s) i
  no_move i core buffer = (moves_end_alike Activation (program_of c) (extent_of c own) (state_of s) i).0 (steps_still i core buffer)

  -- where no actor has a step, none has a move
  pub over_has_no_move : IsOver c s → (a : Actor) → HasMove c own s a → ⊥
  over_has_no_move over (Exec i) has = some_is_not _ (no_move i (over (Exec i)) (over (Drain i)) (steps.Exec i) refl) has
  over_has_no_move over (Drain i) has = some_is_not _ (no_move i (over (Exec i)) (over (Drain i)) (steps.Drains i) refl) has

  nobody_moves : (a : Actor) → length s.threads ≤ thread_of a → HasMove c own s a → ⊥
  nobody_moves (Exec i) ge has = some_is_not _ (no_move i (nobody c s (Exec i) ge) (nobody c s (Drain i) ge) (steps.Exec i) refl) has
  nobody_moves (Drain i) ge has = some_is_not _ (no_move i (nobody c s (Exec i) ge) (nobody c s (Drain i) ge) (steps.Drains i) refl) has

  moves_still : ((a : Actor) → HasMove c own s a → ⊥) → (i : ℕ) → IsStill (late_move (program_of c) (extent_of c own)) (state_of s) i
  moves_still none i (steps.Exec j) is = none_is _ (none (Exec j))
  moves_still none i (steps.Drains j) is = none_is _ (none (Drain j))

  -- where none has a move, none has a step
  pub no_move_is_over : ((a : Actor) → HasMove c own s a → ⊥) → IsOver c s
  no_move_is_over none (Exec i) =
      step_off (steps.perform (state_of s) i) kind_of_move (steps.move (program_of c) (state_of s) (steps.Exec i)) ((moves_end_alike Activation (program_of c) (extent_of c own) (state_of s) i).1 (moves_still none i) (steps.Exec i) refl)
  no_move_is_over none (Drain i) =
      step_off (steps.perform (state_of s) i) kind_of_move (steps.move (program_of c) (state_of s) (steps.Drains i)) ((moves_end_alike Activation (program_of c) (extent_of c own) (state_of s) i).1 (moves_still none i) (steps.Drains i) refl)

-- ---- a run stops in one state

module _ (c : Client) (own : ArrayTable) (t : Table) where
  pub same_move : (s x y : State) (a : Actor) → IsMove c own s a x → IsMove c own s a y → x ≡ y
  same_move s x y a p q = same_state x y (same_Some (state_of x) (state_of y) (sym p ∙ q))

  same_free : (s : State) (a b : Actor) → IsLowestFree c own t s a → IsLowestFree c own t s b → a ≡ b
  same_free s a b p q = elim (cases_eq (number_of a) (number_of b)) [
    | inl same ↦ same_actor a b same
    | inr other ↦ elim (cases_lt (number_of a) (number_of b)) [
      | inl less ↦ absurd (q.lowest a less p.free)
      | inr ge ↦ absurd (p.lowest b (let not : number_of a ≡ number_of b → ⊥ = other in by_order (number_of a) (number_of b) ge not) q.free)
    ]
  ]
    where
      by_order : (m n : ℕ) → n ≤ m → (m ≡ n → ⊥) → n < m
      by_order m n ge not = elim (cases_lt n m) [ inl less ↦ less | inr le ↦ absurd (not (let same : m ≡ n = omega (arith, ge, le) in same)) ]

  stays : (s r : State) → StopsAt c own t s → IsRun c own t s r → s ≡ r
  stays s r stops (Stops z h) = refl
  stays s r stops (Goes z z' q a w free move run) = absurd (stops w a free.free)

  -- behind the lowest free actor's move
  follows : (s q s' : State) (a : Actor) → IsWellFormed c s → IsLowestFree c own t s a → IsMove c own s a s' → IsRun c own t s q → IsRun c own t s' q
  follows s q s' a w free move (Stops z h) = absurd (h w a free.free)
  follows s q s' a w free move (Goes z z' x b w' free' move' run) =
      let same : b ≡ a = same_free s b a free' free in
      let next : z' ≡ s' = same_move s z' s' a (subst (λ (d : Actor). IsMove c own s d z') same move') move in
      subst (λ (y : State). IsRun c own t y q) next run

  pub same_run : (s r q : State) → IsRun c own t s r → IsRun c own t s q → r ≡ q
  same_run s r q (Stops z h) other = stays s q h other
  same_run s r q (Goes z z' x a w free move run) other = same_run z' r q run (follows s q z' a w free move other)

  pub met_from : (states : List State) (s stop : State) (r : Bool) → IsRun c own t s stop → (IsTrue r ↔ Contains states stop) → IsTrue r ↔ IsMetFrom c own t states s
  met_from states s stop r run has = (
    λ h. record { stop = stop; run = run; there = has.0 h },
    λ m. has.1 (subst (Contains states) (same_run s m.stop stop m.run run) m.there),
  )

  pub met_after : (states : List State) (s after : State) (a : Actor) (r : Bool) → IsMove c own s a after → (IsTrue r ↔ IsMetFrom c own t states after) → IsTrue r ↔ IsMetIfMoved c own t states s a
  met_after states s after a r move met = (
    λ h has. record { after = after; move = move; met = met.0 h },
    λ f. let m = f (has_some _ _ move) in met.1 (subst (IsMetFrom c own t states) (same_move s m.after after a m.move move) m.met),
  )

  pub none_moved : (states : List State) (s : State) (a : Actor) → (HasMove c own s a → ⊥) → IsTrue true ↔ IsMetIfMoved c own t states s a
  none_moved states s a fails = (λ h has. absurd (fails has), λ f. refl)

  pub if_met : (states : List State) (s after : State) (a : Actor) (r : Result Bool AllocError) → IsMove c own s a after → IfOk r (λ b. IsTrue b ↔ IsMetFrom c own t states after) → IfOk r (λ b. IsTrue b ↔ IsMetIfMoved c own t states s a)
  if_met states s after a (Ok b) move met = met_after states s after a b move met
  if_met states s after a (Err e) move met = tt

  pub thread_met : (states : List State) (s : State) (i : ℕ) (r : Bool) → IsMetIfMoved c own t states s (Exec i) → (IsTrue r ↔ IsMetIfMoved c own t states s (Drain i)) → IsTrue r ↔ IsThreadMet c own t states s i
  thread_met states s i r core buffer = (λ h. record { core = core; buffer = buffer.0 h }, λ m. buffer.1 m.buffer)

  pub if_thread : (states : List State) (s : State) (i : ℕ) (r : Result Bool AllocError) → IsMetIfMoved c own t states s (Exec i) → IfOk r (λ b. IsTrue b ↔ IsMetIfMoved c own t states s (Drain i)) → IfOk r (λ b. IsTrue b ↔ IsThreadMet c own t states s i)
  if_thread states s i (Ok b) core buffer = thread_met states s i b core buffer
  if_thread states s i (Err e) core buffer = tt

-- ---- thread by thread

pub record MetTo (c : Client) (own : ArrayTable) (t : Table) (states : List State) (s : State) (n : ℕ) : Type 0 where
  pub each : (i : ℕ) → i < n → IsThreadMet c own t states s i

module _ (c : Client) (own : ArrayTable) (t : Table) (states : List State) (s : State) where
  pub met_none : MetTo c own t states s 0
  met_none = record { each = λ i lt. absurd (omega (arith, lt)) }

  pub met_more : (n : ℕ) → MetTo c own t states s n → IsThreadMet c own t states s n → MetTo c own t states s (n + 1)
  met_more n to last = record {
    each = λ i lt. elim (cases_lt i n) [
      | inl less ↦ to.each i less
      | inr ge ↦ subst (IsThreadMet c own t states s) (let same : n ≡ i = omega (arith, lt, ge) in same) last
    ];
  }

  met_all : (n : ℕ) → length s.threads ≤ n → MetTo c own t states s n → (a : Actor) → HasMove c own s a → IsMetAfter c own t states s a
  met_all n le to (Exec i) has = elim (cases_lt i n) [ inl less ↦ (to.each i less).core has | inr ge ↦ absurd (nobody_moves c own s (Exec i) (omega (arith, le, ge)) has) ]
  met_all n le to (Drain i) has = elim (cases_lt i n) [ inl less ↦ (to.each i less).buffer has | inr ge ↦ absurd (nobody_moves c own s (Drain i) (omega (arith, le, ge)) has) ]

  -- by the least table, whichever is
  pub all_met : IsLeast c own → (n : ℕ) → length s.threads ≤ n → MetTo c own t states s n → MovesAreMet c t states s
  all_met least n le to other other_least a has =
      let same : own ≡ other = same_least c own other least other_least in
      subst (λ (o : ArrayTable). HasMove c o s a → IsMetAfter c o t states s a) same (met_all n le to a) has

  pub one_unmet : IsLeast c own → (i : ℕ) → (IsThreadMet c own t states s i → ⊥) → MovesAreMet c t states s → ⊥
  one_unmet least i unmet all = unmet (record { core = all own least (Exec i); buffer = all own least (Drain i) })

-- the run from the initial state is met, by the least table, whichever is
pub meets_initial : (c : Client) (own : ArrayTable) (t : Table) (states : List State) (s : State) (r : Bool) → IsLeast c own → state_of s ≡ initial_of c → (IsTrue r ↔ IsMetFrom c own t states s) → IsTrue r ↔ MeetsInitial c t states
meets_initial c own t states s r least first met = (
  λ h. record { own = own; least = least; initial = s; first = first; met = met.0 h },
  λ m. met.1 (subst (λ (o : ArrayTable). IsMetFrom c o t states s) (same_least c m.own own m.least least) (subst (λ (x : State). IsMetFrom c m.own t states x) (same_state m.initial s (m.first ∙ sym first)) m.met)),
)
