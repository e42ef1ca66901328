-- States that are met, and those that are worked, as more of them are kept.
use Rattle.std.proofs.Common.{◌≡◌, ◌∙◌, ℕ, zero, suc, ◌+◌, ◌*◌, ◌<◌, ◌≤◌, ◌++◌, ◌==◌, ◌⊎◌, inl, inr, Bool, true, false, not, List, [], ◌∷◌, length, length-append, get_or, Option, None, Some, slice_get, refl, sym, ap, subst, arith, if◌then◌else◌}
use Rattle.std.specs.Result.{IsErrAnd}
use Rattle.std.specs.Prelude.{All, Err, IfErr, IfOk, IfSome, IsSome, IsTrue, is_some, Ok, OnOk, Result}
use Rattle.std.specs.Option.{option_map}
use Rattle.std.proofs.lemmas.Option.{none-some, same_Some, slice_get_within, slice_get-get_or, slice_get-map}
use Rattle.std.proofs.lemmas.Bool.{cases_lt}
use Rattle.std.proofs.lemmas.Nat.Bits.{bit_at-zero}
use Rattle.tso_cert.proofs.LookupLemmas.{is_there}
use Rattle.tso_choose.proofs.ChoiceLemmas.{choices_are_determined, chosen_are_valid}
use Rattle.tso_choose.specs.Choices.{AreChosen, actors_below, choice_of, choices_of}
use Rattle.tso_choose.specs.Choosing.{Alone, IsChoice, Nobody, Together}
use Rattle.tso_choose.specs.Choosing.{is_lone_if}
use Rattle.tso_choose.specs.Closures.{has_bit}
use Rattle.tso_choose.specs.Needs.{is_enabled}
use Rattle.tso_choose.specs.Sets.{actor_at}
use Rattle.tso_choose.specs.declared.choice.Choice.{Choice}
use Rattle.tso_choose.proofs.ChoosingLemmas.{at_number}
use Rattle.tso_choose.proofs.NeedLemmas.{nobody}
use Rattle.tso_compact.proofs.PathLemmas.{initial_is_plausible, paths_stay, strictly}
use Rattle.tso_confluence.specs.Stops.{HasOneStop}
use Rattle.tso_compact.specs.Laws.{AreOnPaths, IsPlausible, initial_of}
use Rattle.tso_compact.specs.declared.sort.StepKind.{StepKind}
use Rattle.tso_compact.specs.Plans.{HasStep, IsStep, kind_of_move}
use Rattle.tso_search.specs.Goodness.{AllGood, AllGoodBelow, IsGood}
use Rattle.tso_search.specs.Marking.{IsMarkedToo, is_marked}
use Rattle.tso_search.specs.Grounds.{AllAreKept, AreOneStop, AreToFollow, CanGo, Goes, HasClosed, HasRoom, IsFirst, IsGround, IsLed, IsMetBehind, IsNext, IsNextOrNone, Leads}
use Rattle.tso_search.specs.Reached.{AllMet, IsBadAt, IsMet, IsOrigin}
use Rattle.tso_search.specs.Searched.{AreDone, AreFollowed, AreSearched, GoesOn, HasBegun, HasMore, IsBegun, IsFollowed, IsSearched, IsGoodAt, IsDone, IsHunting, IsStarted, IsStop, IsStopAt, IsWorked, IsWorkedAt}
use Rattle.tso_search.specs.declared.stop.Stop.{Stop}
use Rattle.tso_search.specs.declared.stop.Stop.TheVariants as stops
use Rattle.tso_search.specs.declared.ground.Ground.{Ground}
use Rattle.tso_search.specs.declared.ground.Ground.TheVariants as grounds
use Rattle.tso_search.specs.declared.origin.Origin.{Origin}
use Rattle.tso_fifo.specs.Orders.{HasOrder}
use Rattle.tso_flow.specs.Faults.{HasNoFault}
use Rattle.tso_crossing.proofs.AsSteps.{moves_are_steps}
use Rattle.tso_crossing.specs.Moves.{late_move}
use Rattle.tso_foot.specs.declared.table.ArrayTable.{ArrayTable}
use Rattle.tso_foot.specs.declared.table.Table.{Table}
use Rattle.tso_rec.specs.Conditions.{HasNoStopped, IsKeptAfter, IsOver}
use Rattle.tso_machine.proofs.Ranked.{ranked}
use Rattle.tso_machine.specs.Activations.{Activation}
use Rattle.tso_machine.specs.Programs.{program_of}
use Rattle.tso_machine.specs.Soundness.{is_sound_or_past_end, rank}
use Rattle.tso_model.proofs.Reduce.{steps_append}
use Rattle.tso_model.proofs.Theorems.{steps_stay_well_formed}
use Rattle.tso_model.specs.Reduce.{Steps}
use Rattle.tso_model.specs.States as model_state
use Rattle.tso_model.specs.WellFormed as well
use Rattle.tso_move.specs.Crossed.{IsMetAfter}
use Rattle.tso_move.specs.Own.{extent_of}
use Rattle.tso_move.specs.Runs as runs
use Rattle.tso_move.specs.Runs.{HasMove, IsMove, IsRun}
use Rattle.tso_model.specs.Steps as model
use Rattle.tso_parts.proofs.Distinct.{grown_extends}
use Rattle.tso_parts.proofs.Marked.{new_item, of_longer, old_item}
use Rattle.tso_parts.specs.Numbers.{Extends, IsNumbered, grown}
use Rattle.tso_prog.specs.declared.client.Client.{Client}
use Rattle.tso_state.proofs.ClientLemmas.{few_threads}
use Rattle.tso_state.proofs.ModelLemmas.{may_be_past_end, well_formed_alike}
use Rattle.tso_state.specs.Actors.{actor_of, number_of, thread_of}
use Rattle.tso_state.specs.Views.{state_of}
use Rattle.tso_state.specs.WellFormed.{IsWellFormed, word_count}
use Rattle.tso_state.specs.declared.actor.Actor.{Actor}
use Rattle.tso_state.specs.declared.actor.Actor.TheVariants.{Exec, Drain}
use Rattle.tso_state.specs.declared.state.State.{State}
use Rattle.tso_store.specs.Arriving.{HasOneStopAt, IsArrivalOrNone}
use Rattle.tso_store.specs.Sheets.{IsKeptSuccessor, IsSuccessor, IsSuccessorOrNone, Sheet}

-- ---- results

pub on_ok : {X E A B : Type 0} (r : Result X E) → OnOk r A → (A → B) → OnOk r B
on_ok (Ok x) a f = f a
on_ok (Err e) a f = tt

pub ok_as : {X E : Type 0} {P Q : X → Type 0} (r : Result X E) → IfOk r P → ((x : X) → P x → Q x) → IfOk r Q
ok_as (Ok x) p f = f x p
ok_as (Err e) p f = tt

pub on_both : {X E A B C : Type 0} (r : Result X E) → OnOk r A → OnOk r B → (A → B → C) → OnOk r C
on_both (Ok x) a b f = f a b
on_both (Err e) a b f = tt

pub some_where : {X : Type 0} {P : X → Type 0} (o : Option X) (r : Bool) → IfSome o P → r ≡ is_some o → r ≡ true → (x : X) × P x
some_where None r p e is = absurd (let clash : false ≡ true = sym e ∙ is in cc)
some_where (Some x) r p e is = (x, p)

pub err_as : {X E : Type 0} {P Q : E → Type 0} (r : Result X E) → IfErr r P → ((e : E) → P e → Q e) → IfErr r Q
err_as (Ok x) p f = tt
err_as (Err e) p f = f e p

pub err_only : {X E : Type 0} {P Q : E → Type 0} (r : Result X E) → IsErrAnd r P → ((e : E) → P e → Q e) → IfErr r Q
err_only (Ok x) p f = tt
err_only (Err e) p f = f e p

-- ---- met

abbrev Passable : Client → model_state.State Activation → Type 0
Passable c m = well.IsWellFormed (program_of c) (word_count c) (is_sound_or_past_end c) m × AreOnPaths c m

passable_after : (c : Client) → HasNoFault c → (m m' : model_state.State Activation) (a : model.Actor) → Passable c m → model.step (program_of c) m a ≡ Some m' → Passable c m'
passable_after c sound m m' a (w, on) e = (
  steps_stay_well_formed Activation (program_of c) (word_count c) (is_sound_or_past_end c) (rank c) (ranked c) m m' a w e,
  paths_stay c sound m m' a on e,
)

passable_on : (c : Client) → HasNoFault c → (m m' : model_state.State Activation) (actors : List model.Actor) → Passable c m → Steps (model.step (program_of c)) m actors m' → Passable c m'
passable_on c sound m m' [] p e = subst (Passable c) e p
passable_on c sound m m' (a ∷ rest) p (next, one, more) = passable_on c sound next m' rest (passable_after c sound m next a p one) more

-- steps from a plausible state lead to plausible ones
pub plausible_along : (c : Client) → HasNoFault c → (s t : State) (actors : List model.Actor) → IsPlausible c s → Steps (model.step (program_of c)) (state_of s) actors (state_of t) → IsPlausible c t
plausible_along c sound s t actors p path =
    let (w, on) = passable_on c sound (state_of s) (state_of t) actors (may_be_past_end c s p.well_formed, p.paths) path in
    record { well_formed = (well_formed_alike c t).1 (strictly c (state_of t) on w); paths = on }

-- steps from a state that is met lead to one that is
met_along : (c : Client) → HasNoFault c → (s t : State) (actors : List model.Actor) → IsMet c s → Steps (model.step (program_of c)) (state_of s) actors (state_of t) → IsMet c t
met_along c sound s t actors m path =
    let (before, so_far) = m.reached in
    record {
      reached = (before ++ actors, steps_append (model.step (program_of c)) before actors (initial_of c) (state_of s) (state_of t) so_far path);
      plausible = plausible_along c sound s t actors m.plausible path;
    }

-- so a move does
met_moved : (c : Client) → HasNoFault c → (own : ArrayTable) (s t : State) (a : Actor) → IsMet c s → IsMove c own s a t → IsMet c t
met_moved c sound own s t a m e =
    let (first, rest, one, same, more) = moves_are_steps Activation (program_of c) (extent_of c own) (state_of s) (state_of t) (actor_of a) e in
    met_along c sound s t (actor_of a ∷ rest) m (first, one, more)

met_run : (c : Client) → HasNoFault c → (own : ArrayTable) (t : Table) (s r : State) → IsMet c s → IsRun c own t s r → IsMet c r
met_run c sound own t s r m (runs.Stops z stops) = m
met_run c sound own t s r m (runs.Goes z z' q a w free move run) = met_run c sound own t z' r (met_moved c sound own s z' a m move) run

-- where an actor leads to from a state that is met is met
pub met_on : (c : Client) → HasNoFault c → (g : Ground) (s t : State) (a : Actor) → IsMet c s → Leads c g s a t → IsMet c t
met_on c sound (grounds.Steps table) s t a m e = met_along c sound s t (actor_of a ∷ []) m (state_of t, e, refl)
met_on c sound (grounds.Crossings own table) s t a m is = met_run c sound own table is.after t (met_moved c sound own s is.after a m is.move) is.run

met_initial : (c : Client) (s : State) → state_of s ≡ initial_of c → IsMet c s
met_initial c s e = record { reached = ([], sym e); plausible = initial_is_plausible c s e }

pub met_first : (c : Client) → HasNoFault c → (g : Ground) (s : State) → IsFirst c g s → IsMet c s
met_first c sound (grounds.Steps table) s e = met_initial c s e
met_first c sound (grounds.Crossings own table) s is = met_run c sound own table is.initial s (met_initial c is.initial is.initial_is) is.run

pub ground_is_closed : (c : Client) (g : Ground) → IsGround c g → HasClosed c g
ground_is_closed c (grounds.Steps t) is = tt
ground_is_closed c (grounds.Crossings own t) is = record { closed_own = is.own.closed; closed = is.closed }

-- where tables are closed, a state that is met has one stop, whichever free actors go first
pub one_stop_of : (c : Client) (own : ArrayTable) (t : Table) (s : State) → HasClosed c (grounds.Crossings own t) → IsMet c s → HasOneStop c own t s
one_stop_of c own t s closed met = record { closed_own = closed.closed_own; closed = closed.closed; reached = met.reached; plausible = met.plausible }

pub first_has_one_stop : (c d : Client) (own : ArrayTable) (t : Table) (s : State) → d ≡ c → HasClosed c (grounds.Crossings own t) → state_of s ≡ initial_of c → HasOneStop d own t s
first_has_one_stop c d own t s same closed e = subst (λ (x : Client). HasOneStop x own t s) (sym same) (one_stop_of c own t s closed (met_initial c s e))

pub one_stop_at : (c d : Client) (g : Ground) (states : List State) (origins : List Origin) (n : ℕ) → d ≡ c → IsBegun c g states origins → AreOneStop d g states n
one_stop_at c d (grounds.Steps t) states origins n same begun = tt
one_stop_at c d (grounds.Crossings own t) states origins n same begun =
    subst (λ (x : Client). HasOneStopAt x own t states n) (sym same) (λ s at. one_stop_of c own t s begun.closed (begun.met n s at))

origin_stays : (c : Client) (g : Ground) (old new : List State) (n : ℕ) (o : Origin) → Extends old new → IsOrigin c g old n o → IsOrigin c g new n o
origin_stays c g old new n o stays is = record {
  earlier = is.earlier;
  before = is.before;
  after = is.after;
  before_at = stays o.from is.before is.before_at;
  after_at = stays n is.after is.after_at;
  leads = is.leads;
}

-- with a new state behind the others
pub begun_on : (c : Client) (g : Ground) → HasNoFault c → (states : List State) (origins : List Origin) (from to : State) (o : Origin) → IsBegun c g states origins
    → slice_get states o.from ≡ Some from → Leads c g from o.actor to → IsBegun c g (states ++ to ∷ []) (origins ++ o ∷ [])
begun_on c g sound states origins from to o begun at leads = record {
  closed = begun.closed;
  initial = begun.initial;
  initial_at = old_item states to begun.initial 0 begun.initial_at;
  initial_is = begun.initial_is;
  met = λ n s here. of_longer states to s n here (λ old. begun.met n s old) (λ last same. subst (IsMet c) same (met_on c sound g from to o.actor (begun.met o.from from at) leads));
  count = (let a = length-append origins (o ∷ []) in let b = length-append states (to ∷ []) in let n = begun.count in omega (arith, a, b, n));
  origins = λ k p here. of_longer origins o p k here
      (λ old. origin_stays c g states (states ++ to ∷ []) (k + 1) p (λ i x e. old_item states to x i e) (begun.origins k p old))
      (λ last same. subst (IsOrigin c g (states ++ to ∷ []) (k + 1)) same (record {
        earlier = (let lt = slice_get_within states o.from from at in let n = begun.count in omega (arith, lt, n, last));
        before = from;
        after = to;
        before_at = old_item states to from o.from at;
        after_at = (let n = begun.count in let here : k + 1 ≡ length states = omega (arith, n, last) in subst (λ i. slice_get (states ++ to ∷ []) i ≡ Some to) (sym here) (new_item states to));
        leads = leads;
      }));
}

-- ---- worked

pub kept_at : (c : Client) (states : List State) (s t : State) (a : Actor) (n : ℕ) → IsStep c s a t → slice_get states n ≡ Some t → IsKeptAfter c states s a
kept_at c states s t a n step at = record { after = t; step = step; kept = is_there states t n at }

pub kept_stays : (c : Client) (old new : List State) (s : State) (a : Actor) → Extends old new → IsKeptAfter c old s a → IsKeptAfter c new s a
kept_stays c old new s a stays k =
    let (i, lt, e) = k.kept in
    kept_at c new s k.after a i k.step (stays i k.after (slice_get-get_or old i k.after lt ∙ ap Some e))

met_stays : (c : Client) (own : ArrayTable) (t : Table) (old new : List State) (s : State) (a : Actor) → Extends old new → IsMetAfter c own t old s a → IsMetAfter c own t new s a
met_stays c own t old new s a stays m =
    let (i, lt, e) = m.met.there in
    record {
      after = m.after;
      move = m.move;
      met = record { stop = m.met.stop; run = m.met.run; there = is_there new m.met.stop i (stays i m.met.stop (slice_get-get_or old i m.met.stop lt ∙ ap Some e)) };
    }

-- where an actor leads stays kept
behind_stays : (c : Client) (g : Ground) (old new : List State) (s : State) (a : Actor) → Extends old new → IsMetBehind c g old s a → IsMetBehind c g new s a
behind_stays c (grounds.Steps t) old new s a stays is = λ has. kept_stays c old new s a stays (is has)
behind_stays c (grounds.Crossings own t) old new s a stays is = λ has. met_stays c own t old new s a stays (is has)

all_stay : (c : Client) (g : Ground) (old new : List State) (s : State) → Extends old new → AllAreKept c g old s → AllAreKept c g new s
all_stay c (grounds.Steps t) old new s stays w = record {
  set = w.set;
  chosen = w.chosen;
  moves = λ choices chosen k d lt. kept_stays c old new s _ stays (w.moves choices chosen k d lt);
}
all_stay c (grounds.Crossings own t) old new s stays all = λ a has. met_stays c own t old new s a stays (all a has)

pub worked_stays : (c : Client) (g : Ground) (old new : List State) (s : State) → Extends old new → IsWorked c g old s → IsWorked c g new s
worked_stays c g old new s stays w = record {
  kept = all_stay c g old new s stays w.kept;
  unstopped = w.unstopped;
  explained = w.explained;
}

-- ---- chosen

drawn_by : (xs : List Actor) (x : Actor) (b : Bool) (i : ℕ) (a : Actor) {C : Type 0} → slice_get (if b then xs ++ x ∷ [] else xs) i ≡ Some a
    → (slice_get xs i ≡ Some a → C) → (IsTrue b → x ≡ a → C) → C
drawn_by xs x true i a e old new = of_longer xs x a i e old (λ last same. new refl same)
drawn_by xs x false i a e old new = old e

-- the actors of a set are those of its numbers
drawn : (set n i : ℕ) (a : Actor) → slice_get (actors_below set n) i ≡ Some a → (k : ℕ) × (k < n) × IsTrue (has_bit set k) × (actor_at k ≡ a)
drawn set zero i a e = absurd (none-some a e)
drawn set (suc n) i a e = drawn_by (actors_below set n) (actor_at n) (has_bit set n) i a e
    (λ old. let (k, lt, bit, same) = drawn set n i a old in (k, omega (arith, lt), bit, same))
    (λ bit same. (n, omega arith, bit, same))

enabled_by : {X Y Z : Type 0} (f : X → Y) (k : X → Z) (o : Option X) → is_some (option_map k o) ≡ true → is_some (option_map f o) ≡ true
enabled_by f k None e = e
enabled_by f k (Some m) e = refl

true-false : (x : Bool) → x ≡ true → x ≡ false → ⊥
true-false true e f = let clash : true ≡ false = f in cc
true-false false e f = let clash : false ≡ true = e in cc

enabled_has : (c : Client) (s : State) (a : Actor) → IsTrue (is_enabled c s a) → HasStep c s a
enabled_has c s a e = enabled_by (model.perform (state_of s) (model.thread_of (actor_of a))) kind_of_move (model.move (program_of c) (state_of s) (actor_of a)) e

choice_by : (c : Client) (t : Table) (s : State) (chosen : List Actor) (o : Option Actor) (x : Choice) → option_map (choice_of c t s chosen) o ≡ Some x → o ≡ Some x.actor
choice_by c t s chosen None x e = absurd (none-some x e)
choice_by c t s chosen (Some a) x e = ap Some (ap (λ (y : Choice). y.actor) (same_Some (choice_of c t s chosen a) x e))

-- where the steps of all actors of the chosen set are followed, those of all chosen actors are
pub chosen_followed : (c : Client) (t : Table) (s : State) (set : ℕ) (old new : List State) (n : ℕ) → IsWellFormed c s → IsChoice c t s set → slice_get old n ≡ Some s
    → AreFollowed c (grounds.Steps t) old new n set 10 → (choices : List Choice) → AreChosen c t s choices → All (λ (x : Choice). IsKeptAfter c new s x.actor) choices
chosen_followed c t s set old new n well is here followed choices chosen i d lt =
    let x : Choice = get_or choices i d in
    let actors = actors_below set (2 * length s.threads) in
    let valid = chosen_are_valid c t s choices well chosen in
    let same : choices ≡ choices_of c t s set = choices_are_determined c t s choices (choices_of c t s set) chosen (record { set = set; is = is; all = refl }) in
    let at : slice_get choices i ≡ Some x = slice_get-get_or choices i d lt in
    let mapped : option_map (choice_of c t s actors) (slice_get actors i) ≡ Some x = sym (slice_get-map (choice_of c t s actors) actors i) ∙ sym (ap (λ (xs : List Choice). slice_get xs i) same) ∙ at in
    let (k, small, bit, a) = drawn set (2 * length s.threads) i x.actor (choice_by c t s actors (slice_get actors i) x mapped) in
    let has : HasStep c s x.actor = enabled_has c s x.actor (valid.enabled i x at) in
    let few : k < 10 = (let f = few_threads c in let m = well.sizes.threads in omega (arith, small, f, m)) in
    subst (IsKeptAfter c new s) a (followed k few bit s here (subst (HasStep c s) (sym a) has))

nobody_by : (o : Option StepKind) → IsTrue (is_lone_if o) → is_some o ≡ true
nobody_by None e = e
nobody_by (Some kind) e = refl

-- ---- the actors that have moves

the_one : {X : Type 0} (o : Option X) → IsSome o → (x : X) × (o ≡ Some x)
the_one None has = absurd (let clash : false ≡ true = has in cc)
the_one (Some x) has = (x, refl)

some_step : {X Y Z : Type 0} (f : X → Y) (k : X → Z) (o : Option X) (y : Y) → option_map f o ≡ Some y → is_some (option_map k o) ≡ true
some_step f k None y e = absurd (none-some y e)
some_step f k (Some x) y e = refl

-- an actor with a move has a step
pub move_has_step : (c : Client) (own : ArrayTable) (s : State) (a : Actor) → HasMove c own s a → HasStep c s a
move_has_step c own s a has =
    let (m, e) = the_one (late_move (program_of c) (extent_of c own) (state_of s) (actor_of a)) has in
    let (first, rest, one, same, more) = moves_are_steps Activation (program_of c) (extent_of c own) (state_of s) m (actor_of a) e in
    rw one refl

moves_inside : (c : Client) (own : ArrayTable) (s : State) (a : Actor) → HasMove c own s a → thread_of a < length s.threads
moves_inside c own s a has = elim (cases_lt (thread_of a) (length s.threads)) [
  | inl lt ↦ lt
  | inr ge ↦
      let (m, e) = the_one (late_move (program_of c) (extent_of c own) (state_of s) (actor_of a)) has in
      let (first, rest, one, same, more) = moves_are_steps Activation (program_of c) (extent_of c own) (state_of s) m (actor_of a) e in
      absurd (true-false (is_enabled c s a) (some_step (model.perform (state_of s) (model.thread_of (actor_of a))) kind_of_move (model.move (program_of c) (state_of s) (actor_of a)) first one) (nobody c s a ge))
]

number_within : (a : Actor) → number_of a < 2 * thread_of a + 2
number_within (Exec i) = omega arith
number_within (Drain i) = omega arith

-- where all actors that are to be followed are followed, all to which they lead is kept
all_followed : (c : Client) (g : Ground) (s : State) (set : ℕ) (old new : List State) (n : ℕ) → IsWellFormed c s → AreToFollow c g s set → slice_get old n ≡ Some s
    → AreFollowed c g old new n set 10 → AllAreKept c g new s
all_followed c (grounds.Steps t) s set old new n well is here followed = record { set = set; chosen = is; moves = chosen_followed c t s set old new n well is here followed }
all_followed c (grounds.Crossings own t) s set old new n well is here followed =
    λ a has.
    let inside = moves_inside c own s a has in
    let few = few_threads c in
    let threads = well.sizes.threads in
    let near = number_within a in
    let small : number_of a < 10 = omega (arith, inside, few, threads, near) in
    let one : HasMove c own s (actor_at (number_of a)) → IsMetAfter c own t new s (actor_at (number_of a)) = followed (number_of a) small (is (number_of a) small) s here in
    subst (λ (x : Actor). HasMove c own s x → IsMetAfter c own t new s x) (at_number a) one has

-- ---- the actors that are chosen

-- where no actor has a step, the chosen set is empty
pub over_chooses_none : (c : Client) (t : Table) (s : State) (set : ℕ) → IsChoice c t s set → IsOver c s → set ≡ 0
over_chooses_none c t s set (Alone a lone only) over = absurd (true-false (is_enabled c s a) (nobody_by _ lone.lone) (over a))
over_chooses_none c t s set (Together a none smallest) over = absurd (true-false (is_enabled c s a) smallest.enabled (over a))
over_chooses_none c t s set (Nobody none is) over = is

-- of an empty set no actor is chosen
none_chosen : (n i : ℕ) (a : Actor) → slice_get (actors_below 0 n) i ≡ Some a → ⊥
none_chosen n i a e =
    let (k, lt, bit, same) = drawn 0 n i a e in
    true-false (has_bit 0 k) bit (ap (λ n. n == 1) (bit_at-zero k))

pub nobody_followed : (c : Client) (t : Table) (s : State) (states : List State) → IsChoice c t s 0 → (choices : List Choice) → AreChosen c t s choices
    → All (λ (x : Choice). IsKeptAfter c states s x.actor) choices
nobody_followed c t s states is choices chosen i d lt =
    let x : Choice = get_or choices i d in
    let actors = actors_below 0 (2 * length s.threads) in
    let same : choices ≡ choices_of c t s 0 = choices_are_determined c t s choices (choices_of c t s 0) chosen (record { set = 0; is = is; all = refl }) in
    let at : slice_get choices i ≡ Some x = slice_get-get_or choices i d lt in
    let mapped : option_map (choice_of c t s actors) (slice_get actors i) ≡ Some x = sym (slice_get-map (choice_of c t s actors) actors i) ∙ sym (ap (λ (xs : List Choice). slice_get xs i) same) ∙ at in
    absurd (none_chosen (2 * length s.threads) i x.actor (choice_by c t s actors (slice_get actors i) x mapped))

-- ---- a search

-- a state whose chosen steps are followed is worked, and so are those before it
pub searched_moves : (c : Client) (g : Ground) (limit : ℕ) (old new : List State) (origins origins' : List Origin) (number set : ℕ)
    → IsSearched c g old origins number → AllGood c old → GoesOn c g limit old new origins' → number < length old → ((s : State) → slice_get old number ≡ Some s → AreToFollow c g s set) → AreFollowed c g old new number set 10
    → IsSearched c g new origins' (number + 1)
searched_moves c g limit old new origins origins' number set searched good on inside chosen followed = record {
  begun = on.begun;
  worked = λ n x lt at. by n x at (cases_lt n number) lt;
}
  where
    s : State
    s = get_or old number searched.begun.initial

    here : slice_get old number ≡ Some s
    here = slice_get-get_or old number searched.begun.initial inside

    well : IsWellFormed c s
    well = (searched.begun.met number s here).plausible.well_formed

    this : IsWorked c g new s
    this = record {
      kept = all_followed c g s set old new number well (chosen s here) here followed;
      unstopped = λ over. (good number s here).unstopped;
      explained = λ over. (good number s here).explained;
    }

    by : (n : ℕ) (x : State) → slice_get new n ≡ Some x → (n < number) ⊎ (number ≤ n) → n < number + 1 → IsWorked c g new x
    by n x at (inl lt) small =
        let less = slice_get_within old number s here in
        let there = slice_get-get_or old n x (omega (arith, lt, less)) in
        let same : get_or old n x ≡ x = same_Some (get_or old n x) x (sym (on.stays n (get_or old n x) there) ∙ at) in
        subst (IsWorked c g new) same (worked_stays c g old new (get_or old n x) on.stays (searched.worked n (get_or old n x) lt there))
    by n x at (inr ge) small =
        let last : number ≡ n = omega (arith, ge, small) in
        let same : s ≡ x = same_Some s x (sym (on.stays number s here) ∙ ap (λ i. slice_get new i) last ∙ at) in
        subst (IsWorked c g new) same this

-- the state alone with which a search begins
pub begun_first : (c : Client) (g : Ground) → HasNoFault c → (states : List State) → IsStarted c g states → IsBegun c g states []
begun_first c g sound states started = subst (λ (xs : List State). IsBegun c g xs []) (sym started.only) (record {
  closed = started.closed;
  initial = started.initial;
  initial_at = refl;
  initial_is = started.initial_is;
  met = λ n s at. one n s at;
  count = refl;
  origins = λ k o at. absurd (none-some o at);
})
  where
    one : (n : ℕ) (s : State) → slice_get (started.initial ∷ []) n ≡ Some s → IsMet c s
    one zero s at = subst (IsMet c) (same_Some started.initial s at) (met_first c sound g started.initial started.initial_is)
    one (suc n) s at = absurd (none-some s at)

-- more states than the limit are reached
pub more_than : (c : Client) (g : Ground) (limit : ℕ) (states : List State) (origins : List Origin) → IsBegun c g states origins → IsNumbered states → limit < length states → HasMore c limit
more_than c g limit states origins begun differ more = record { states = states; more = more; differ = differ; reached = λ n s at. (begun.met n s at).reached }

-- ---- one step

-- a step to a new state
pub begun_after : (c : Client) (g : Ground) → HasNoFault c → (old new : List State) (os os' : List Origin) (n m : ℕ) (a : Actor) → IsBegun c g old os
    → IsNext c g old new n a (m, true) → os' ≡ os ++ record { from = n; actor = a } ∷ [] → IsBegun c g new os'
begun_after c g sound old new os os' n m a begun next more =
    let o : Origin = record { from = n; actor = a } in
    let on = begun_on c g sound old os next.from next.to o begun next.at next.leads in
    let states : IsBegun c g new (os ++ o ∷ []) = subst (λ (xs : List State). IsBegun c g xs (os ++ o ∷ [])) (sym next.added.kept) on in
    subst (IsBegun c g new) (sym more) states

pub stays_after : (c : Client) (g : Ground) (old new : List State) (n : ℕ) (a : Actor) (r : ℕ × Bool) → IsNext c g old new n a r → Extends old new
stays_after c g old new n a r next = grown_extends old new next.to r.1 next.added.kept

-- where an actor leads is kept, where this has a number
behind_leads : (c : Client) (g : Ground) (states : List State) (s to : State) (a : Actor) (n : ℕ) → Leads c g s a to → slice_get states n ≡ Some to → IsMetBehind c g states s a
behind_leads c (grounds.Steps t) states s to a n step at = λ has. kept_at c states s to a n step at
behind_leads c (grounds.Crossings own t) states s to a n is at = λ has. record { after = is.after; move = is.move; met = record { stop = to; run = is.run; there = is_there states to n at } }

behind_nowhere : (c : Client) (g : Ground) (states : List State) (s : State) (a : Actor) → (Goes c g s a → ⊥) → IsMetBehind c g states s a
behind_nowhere c (grounds.Steps t) states s a none = λ has. absurd (none has)
behind_nowhere c (grounds.Crossings own t) states s a none = λ has. absurd (none has)

-- it is followed
pub followed_after : (c : Client) (g : Ground) (old new : List State) (n : ℕ) (a : Actor) (r : ℕ × Bool) → IsNext c g old new n a r → IsFollowed c g old new n a
followed_after c g old new n a r next s at =
    let same : next.from ≡ s = same_Some next.from s (sym next.at ∙ at) in
    behind_leads c g new s next.to a r.0 (subst (λ (x : State). Leads c g x a next.to) same next.leads) next.added.number

-- there was none
pub followed_nowhere : (c : Client) (g : Ground) (old new : List State) (n : ℕ) (a : Actor) → (CanGo c g old n a → ⊥) → IsFollowed c g old new n a
followed_nowhere c g old new n a none s at = behind_nowhere c g new s a (λ goes. none (record { from = s; at = at; goes = goes }))

-- a step to a state that was kept before
pub goes_on_same : (c : Client) (g : Ground) (limit : ℕ) (old new : List State) (os : List Origin) → IsBegun c g old os → length old ≤ limit → new ≡ old → GoesOn c g limit old new os
goes_on_same c g limit old new os begun few same = subst (λ (xs : List State). GoesOn c g limit old xs os) (sym same) (record { begun = begun; stays = λ i x at. at; few = few })

-- what a step to a new state leaves
pub record IsNew (c : Client) (g : Ground) (old new : List State) (origins : List Origin) (n : ℕ) (a : Actor) : Type 0 where
  pub begun : IsBegun c g new origins
  pub stays : Extends old new
  pub followed : IsFollowed c g old new n a

new_by : (c : Client) (g : Ground) → HasNoFault c → (old new : List State) (os os' : List Origin) (n : ℕ) (a : Actor) (r : ℕ × Bool) → IsBegun c g old os
    → IsNext c g old new n a r → not r.1 ≡ false → os' ≡ os ++ record { from = n; actor = a } ∷ [] → IsNew c g old new os' n a
new_by c g sound old new os os' n a (m, true) begun next is more = record {
  begun = begun_after c g sound old new os os' n m a begun next more;
  stays = stays_after c g old new n a (m, true) next;
  followed = followed_after c g old new n a (m, true) next;
}
new_by c g sound old new os os' n a (m, false) begun next is more = absurd (let clash : true ≡ false = is in cc)

pub stepped_new : (c d : Client) (g : Ground) → HasNoFault c → d ≡ c → (old new : List State) (os os' : List Origin) (n : ℕ) (a : Actor) (o : Option (ℕ × Bool)) (r : ℕ × Bool) → IsBegun c g old os
    → IsNextOrNone d g old new n a o → o ≡ Some r → not r.1 ≡ false → os' ≡ os ++ record { from = n; actor = a } ∷ [] → IsNew c g old new os' n a
stepped_new c d g sound same old new os os' n a o r begun step e is more =
    let next : IsNext d g old new n a r = subst (IsNextOrNone d g old new n a) e step in
    new_by c g sound old new os os' n a r begun (subst (λ (x : Client). IsNext x g old new n a r) same next) is more

-- the state behind the others, with the step that leads there
pub record IsNewState (c : Client) (g : Ground) (old new : List State) (n : ℕ) (a : Actor) (m : ℕ) : Type 0 where
  pub from : State
  pub to : State
  pub at : slice_get old n ≡ Some from
  pub leads : Leads c g from a to
  pub grown : new ≡ old ++ to ∷ []
  pub last : m ≡ length old

new_state_by : (c : Client) (g : Ground) (old new : List State) (n : ℕ) (a : Actor) (r : ℕ × Bool) → IsNext c g old new n a r → not r.1 ≡ false → IsNumbered new → IsNewState c g old new n a r.0
new_state_by c g old new n a (m, false) next is differ = absurd (let clash : true ≡ false = is in cc)
new_state_by c g old new n a (m, true) next is differ = record {
  from = next.from;
  to = next.to;
  at = next.at;
  leads = next.leads;
  grown = next.added.kept;
  last = differ m (length old) next.to next.added.number (subst (λ (xs : List State). slice_get xs (length old) ≡ Some next.to) (sym next.added.kept) (new_item old next.to));
}

pub new_state : (c d : Client) (g : Ground) → d ≡ c → (old new : List State) (n : ℕ) (a : Actor) (o : Option (ℕ × Bool)) (r : ℕ × Bool)
    → IsNextOrNone d g old new n a o → o ≡ Some r → not r.1 ≡ false → IsNumbered new → IsNewState c g old new n a r.0
new_state c d g same old new n a o r step e is differ =
    let next : IsNext d g old new n a r = subst (IsNextOrNone d g old new n a) e step in
    new_state_by c g old new n a r (subst (λ (x : Client). IsNext x g old new n a r) same next) is differ

new_at : (c : Client) (g : Ground) (old new : List State) (n m : ℕ) (a : Actor) → (s : IsNewState c g old new n a m) → slice_get new m ≡ Some s.to
new_at c g old new n m a s =
    subst (λ i. slice_get new i ≡ Some s.to) (sym s.last) (subst (λ (xs : List State). slice_get xs (length old) ≡ Some s.to) (sym s.grown) (new_item old s.to))

pub new_is_next : (c : Client) (g : Ground) (old new : List State) (n m : ℕ) (a : Actor) → IsNewState c g old new n a m → IsLed c g new n a m
new_is_next c g old new n m a s = record {
  from = s.from;
  to = s.to;
  at = subst (λ (xs : List State). slice_get xs n ≡ Some s.from) (sym s.grown) (old_item old s.to s.from n s.at);
  leads = s.leads;
  number = new_at c g old new n m a s;
}

pub new_is_later : (c : Client) (g : Ground) (old new : List State) (n m : ℕ) (a : Actor) → IsNewState c g old new n a m → n < m
new_is_later c g old new n m a s = let lt = slice_get_within old n s.from s.at in let e = s.last in omega (arith, lt, e)

pub new_is_within : (c : Client) (g : Ground) (old new : List State) (n m : ℕ) (a : Actor) → IsNewState c g old new n a m → m < length new
new_is_within c g old new n m a s = slice_get_within new m s.to (new_at c g old new n m a s)

pub good_below : (c : Client) (g : Ground) (old new : List State) (n m : ℕ) (a : Actor) → IsNewState c g old new n a m → AllGood c old → AllGoodBelow c new m
good_below c g old new n m a s good k x less at =
    of_longer old s.to x k (subst (λ (xs : List State). slice_get xs k ≡ Some x) s.grown at) (λ before. good k x before) (λ last same. absurd (let e = s.last in omega (arith, less, last, e)))

pub good_with : (c : Client) (g : Ground) (old new : List State) (n m : ℕ) (a : Actor) → IsNewState c g old new n a m → AllGood c old → IsGoodAt c new m → AllGood c new
good_with c g old new n m a s good one k x at =
    of_longer old s.to x k (subst (λ (xs : List State). slice_get xs k ≡ Some x) s.grown at) (λ before. good k x before) (λ last same.
    let here : one.state ≡ x = same_Some one.state x (sym one.at ∙ new_at c g old new n m a s ∙ ap Some same) in
    subst (IsGood c) here one.good)

pub good_as : (c : Client) (old new : List State) → AllGood c old → new ≡ old → AllGood c new
good_as c old new good same = subst (AllGood c) (sym same) good

-- a search stops where a new state is bad
pub stop_at : (c : Client) (g : Ground) (limit : ℕ) (states : List State) (origins : List Origin) (n : ℕ) → IsBegun c g states origins → (stop : Stop) → IsStopAt c states n stop → IsStop c g limit states origins stop
stop_at c g limit states origins n begun (stops.Violation m) (same, bad) = (begun, subst (IsBadAt c states) (sym same) bad)
stop_at c g limit states origins n begun stops.Limit at = absurd at
stop_at c g limit states origins n begun stops.Memory at = tt

pub new_goes_on : (c : Client) (g : Ground) (limit : ℕ) (old new : List State) (os : List Origin) (n : ℕ) (a : Actor) → IsNew c g old new os n a → length new ≤ limit → GoesOn c g limit old new os
new_goes_on c g limit old new os n a new_one few = record { begun = new_one.begun; stays = new_one.stays; few = few }

-- a step to a state that was kept before, or none
old_by : (c : Client) (g : Ground) (old new : List State) (n : ℕ) (a : Actor) (r : ℕ × Bool) → IsNext c g old new n a r → not r.1 ≡ true → new ≡ old
old_by c g old new n a (m, true) next is = absurd (let clash : false ≡ true = is in cc)
old_by c g old new n a (m, false) next is = next.added.kept

pub stepped_old : (c d : Client) (g : Ground) → d ≡ c → (old new : List State) (n : ℕ) (a : Actor) (o : Option (ℕ × Bool)) (r : ℕ × Bool)
    → IsNextOrNone d g old new n a o → o ≡ Some r → not r.1 ≡ true → (new ≡ old) × IsFollowed c g old new n a
stepped_old c d g same old new n a o r step e is =
    let found : IsNext d g old new n a r = subst (IsNextOrNone d g old new n a) e step in
    let next = subst (λ (x : Client). IsNext x g old new n a r) same found in
    (old_by c g old new n a r next is, followed_after c g old new n a r next)

pub stepped_nowhere : (c d : Client) (g : Ground) → d ≡ c → (old new : List State) (n : ℕ) (a : Actor) (o : Option (ℕ × Bool))
    → IsNextOrNone d g old new n a o → o ≡ None → (new ≡ old) × IsFollowed c g old new n a
stepped_nowhere c d g same old new n a o step e =
    let (none, kept) : (CanGo d g old n a → ⊥) × (new ≡ old) = subst (IsNextOrNone d g old new n a) e step in
    (kept, followed_nowhere c g old new n a (subst (λ (x : Client). CanGo x g old n a → ⊥) same none))

-- ---- the actors of a set, one after another

pub stays_stays : {X : Type 0} (xs ys zs : List X) → Extends xs ys → Extends ys zs → Extends xs zs
stays_stays xs ys zs p q i x at = q i x (p i x at)

pub goes_on_twice : (c : Client) (g : Ground) (limit : ℕ) (old mid new : List State) (os ps : List Origin) → GoesOn c g limit old mid os → GoesOn c g limit mid new ps → GoesOn c g limit old new ps
goes_on_twice c g limit old mid new os ps p q = record { begun = q.begun; stays = stays_stays old mid new p.stays q.stays; few = q.few }

pub goes_nowhere : (c : Client) (g : Ground) (limit : ℕ) (states : List State) (origins : List Origin) → IsBegun c g states origins → length states ≤ limit → GoesOn c g limit states states origins
goes_nowhere c g limit states origins begun few = record { begun = begun; stays = λ i x at. at; few = few }

is_followed_on : (c : Client) (g : Ground) (old mid new : List State) (n : ℕ) (a : Actor) → Extends mid new → IsFollowed c g old mid n a → IsFollowed c g old new n a
is_followed_on c g old mid new n a q f s at = behind_stays c g mid new s a q (f s at)

-- behind the actors below number k, that one too, if it is in the set
pub followed_on : (c : Client) (g : Ground) (old mid new : List State) (n set k : ℕ) → Extends old mid → Extends mid new → AreFollowed c g old mid n set k
    → (IsTrue (has_bit set k) → IsFollowed c g mid new n (actor_at k)) → AreFollowed c g old new n set (k + 1)
followed_on c g old mid new n set k p q all one j lt bit = by (cases_lt j k)
  where
    by : (j < k) ⊎ (k ≤ j) → IsFollowed c g old new n (actor_at j)
    by (inl less) = is_followed_on c g old mid new n (actor_at j) q (all j less bit)
    by (inr ge) =
        let same : k ≡ j = omega (arith, ge, lt) in
        let last : IsFollowed c g mid new n (actor_at j) = subst (λ i. IsFollowed c g mid new n (actor_at i)) same (one (subst (λ i. IsTrue (has_bit set i)) (sym same) bit)) in
        λ s at. last s (p n s at)

pub still_there : (old new : List State) (n : ℕ) (s : State) → Extends old new → n < length old → n < length new
still_there old new n s stays lt = slice_get_within new n (get_or old n s) (stays n (get_or old n s) (slice_get-get_or old n s lt))

pub longer : (old new : List State) → Extends old new → length old ≤ length new
longer [] new stays = omega arith
longer (x ∷ xs) new stays = let h : length xs < length new = still_there (x ∷ xs) new (length xs) x stays (omega arith) in omega (arith, h)

pub some_as : {X : Type 0} (P : X → Type 0) (o : Option X) (x : X) → IfSome o P → o ≡ Some x → P x
some_as P None x p e = absurd (none-some x e)
some_as P (Some y) x p e = subst P (same_Some y x e) p

-- ---- states that are worked out of their turn

pub there_by : (states : List State) (n : ℕ) (s : State) → slice_get states n ≡ Some s → n < length states
there_by states n s at = slice_get_within states n s at

-- where none is marked
pub done_none : (c : Client) (g : Ground) (states : List State) (marks : List Bool) → marks ≡ [] → AreDone c g states marks
done_none c g states marks none = subst (AreDone c g states) (sym none) (λ n marked. absurd (let clash : false ≡ true = marked in cc))

pub done_stays : (c : Client) (g : Ground) (old new : List State) (marks : List Bool) → Extends old new → AreDone c g old marks → AreDone c g new marks
done_stays c g old new marks stays done n marked =
    let one = done n marked in
    record { state = one.state; at = stays n one.state one.at; worked = worked_stays c g old new one.state stays one.worked }

-- with one that is marked too
done_too : (c : Client) (g : Ground) (states : List State) (old new : List Bool) (n : ℕ) → IsMarkedToo old new n → AreDone c g states old → IsDone c g states n → AreDone c g states new
done_too c g states old new n too done one k marked = elim ((too k).0 marked) [
  | inl same ↦ subst (IsDone c g states) (sym same) one
  | inr before ↦ done k before
]

-- a state whose chosen steps were followed is worked
done_now : (c : Client) (g : Ground) (limit : ℕ) (old new : List State) (origins origins' : List Origin) (n set : ℕ) (s : State) → IsBegun c g old origins → AllGood c old
    → GoesOn c g limit old new origins' → slice_get old n ≡ Some s → AreToFollow c g s set → AreFollowed c g old new n set 10 → IsDone c g new n
done_now c g limit old new origins origins' n set s begun good on here is followed = record {
  state = s;
  at = on.stays n s here;
  worked = record {
    kept = all_followed c g s set old new n (begun.met n s here).plausible.well_formed is here followed;
    unstopped = λ over. (good n s here).unstopped;
    explained = λ over. (good n s here).explained;
  };
}

-- a hunt goes on behind a state that is worked and marked
pub hunting_marked : (c : Client) (g : Ground) (limit : ℕ) (old new : List State) (origins origins' : List Origin) (marks marks' : List Bool) (n set : ℕ) → IsHunting c g limit old origins marks
    → n < length old → ((s : State) → slice_get old n ≡ Some s → AreToFollow c g s set) → GoesOn c g limit old new origins' → AllGood c new → AreFollowed c g old new n set 10 → IsMarkedToo marks marks' n
    → IsHunting c g limit new origins' marks'
hunting_marked c g limit old new origins origins' marks marks' n set h there chosen on good followed too = record {
  begun = on.begun;
  good = good;
  few = on.few;
  done = done_too c g new marks marks' n too (done_stays c g old new marks on.stays h.done) (done_now c g limit old new origins origins' n set s h.begun h.good on here (chosen s here) followed);
}
  where
    s : State
    s = get_or old n h.begun.initial

    here : slice_get old n ≡ Some s
    here = slice_get-get_or old n h.begun.initial there

-- one that is marked is worked in its turn
pub searched_done : (c : Client) (g : Ground) (states : List State) (origins : List Origin) (marks : List Bool) (number : ℕ) → IsSearched c g states origins number → AreDone c g states marks
    → IsTrue (is_marked marks number) → IsSearched c g states origins (number + 1)
searched_done c g states origins marks number searched done marked = record {
  begun = searched.begun;
  worked = λ n x lt at. by n x at (cases_lt n number) lt;
}
  where
    one : IsDone c g states number
    one = done number marked

    by : (n : ℕ) (x : State) → slice_get states n ≡ Some x → (n < number) ⊎ (number ≤ n) → n < number + 1 → IsWorked c g states x
    by n x at (inl lt) small = searched.worked n x lt at
    by n x at (inr ge) small =
        let last : number ≡ n = omega (arith, ge, small) in
        subst (IsWorked c g states) (same_Some one.state x (sym one.at ∙ ap (λ i. slice_get states i) last ∙ at)) one.worked

-- what was worked stays so while more states are kept
pub searched_stays : (c : Client) (g : Ground) (old new : List State) (origins origins' : List Origin) (number : ℕ) → IsSearched c g old origins number → number ≤ length old → IsBegun c g new origins'
    → Extends old new → IsSearched c g new origins' number
searched_stays c g old new origins origins' number searched low begun stays = record {
  begun = begun;
  worked = λ n x lt at.
      let there = slice_get-get_or old n x (omega (arith, lt, low)) in
      let same : get_or old n x ≡ x = same_Some (get_or old n x) x (sym (stays n (get_or old n x) there) ∙ at) in
      subst (IsWorked c g new) same (worked_stays c g old new (get_or old n x) stays (searched.worked n (get_or old n x) lt there));
}

-- ---- room

pub room_first : (g : Ground) (kept most : ℕ) → kept ≤ most → HasRoom g kept most
room_first (grounds.Steps t) kept most le = le
room_first (grounds.Crossings own t) kept most le = tt

pub room_as : (g : Ground) (a b x y : ℕ) → HasRoom g a b → (a ≤ b → x ≤ y) → HasRoom g x y
room_as (grounds.Steps t) a b x y room f = f room
room_as (grounds.Crossings own t) a b x y room f = tt

pub room_both : (g : Ground) (a b d e x y : ℕ) → HasRoom g a b → HasRoom g d e → (a ≤ b → d ≤ e → x ≤ y) → HasRoom g x y
room_both (grounds.Steps t) a b d e x y one other f = f one other
room_both (grounds.Crossings own t) a b d e x y one other f = tt

-- ---- the actors of a set, as they are followed

-- the actors of a set with numbers below k are followed
pub record IsFollowing (c : Client) (g : Ground) (limit : ℕ) (old new : Sheet) (origins : List Origin) (n set k : ℕ) : Type 0 where
  pub client : new.client ≡ c
  pub on : GoesOn c g limit old.states new.states origins
  pub followed : AreFollowed c g old.states new.states n set k
  pub room : HasRoom g new.kept (old.kept + 4 * k)

pub following_first : (c : Client) (g : Ground) (limit : ℕ) (old : Sheet) (origins : List Origin) (n set : ℕ) → old.client ≡ c → IsBegun c g old.states origins → length old.states ≤ limit → IsFollowing c g limit old old origins n set 0
following_first c g limit old origins n set same begun few = record {
  client = same;
  on = goes_nowhere c g limit old.states origins begun few;
  followed = λ k lt bit. absurd (omega (arith, lt));
  room = room_first g old.kept _ (omega arith);
}

pub following_on : (c : Client) (g : Ground) (limit : ℕ) (old mid next new : Sheet) (os ps : List Origin) (origins : List Origin) (n set k : ℕ) (a : Actor) → IsFollowing c g limit old mid os n set k
    → GoesOn c g limit mid.states next.states ps → a ≡ actor_at k → IsFollowed c g mid.states next.states n a → HasRoom g next.kept (mid.kept + 4) → next.client ≡ mid.client
    → new ≡ next → origins ≡ ps → IsFollowing c g limit old new origins n set (k + 1)
following_on c g limit old mid next new os ps origins n set k a f on actor one room client same tail =
    let r : IsFollowing c g limit old next ps n set (k + 1) = record {
      client = client ∙ f.client;
      on = goes_on_twice c g limit old.states mid.states next.states os ps f.on on;
      followed = followed_on c g old.states mid.states next.states n set k f.on.stays on.stays f.followed (λ bit. subst (IsFollowed c g mid.states next.states n) actor one);
      room = room_both g _ _ _ _ _ _ room f.room (λ x y. omega (arith, x, y));
    } in
    let moved : IsFollowing c g limit old new ps n set (k + 1) = subst (λ (s : Sheet). IsFollowing c g limit old s ps n set (k + 1)) (sym same) r in
    subst (λ (xs : List Origin). IsFollowing c g limit old new xs n set (k + 1)) (sym tail) moved

pub following_past : (c : Client) (g : Ground) (limit : ℕ) (old mid new : Sheet) (os origins : List Origin) (n set k : ℕ) → IsFollowing c g limit old mid os n set k → has_bit set k ≡ false
    → new ≡ mid → origins ≡ os → IsFollowing c g limit old new origins n set (k + 1)
following_past c g limit old mid new os origins n set k f off same tail =
    let r : IsFollowing c g limit old mid os n set (k + 1) = record {
      client = f.client;
      on = f.on;
      followed = followed_on c g old.states mid.states mid.states n set k f.on.stays (λ i x at. at) f.followed (λ bit. absurd (true-false (has_bit set k) bit off));
      room = room_as g _ _ _ _ f.room (λ x. omega (arith, x));
    } in
    let moved : IsFollowing c g limit old new os n set (k + 1) = subst (λ (s : Sheet). IsFollowing c g limit old s os n set (k + 1)) (sym same) r in
    subst (λ (xs : List Origin). IsFollowing c g limit old new xs n set (k + 1)) (sym tail) moved

pub searched_first : (c : Client) (g : Ground) → HasNoFault c → (states : List State) (origins : List Origin) → IsStarted c g states → origins ≡ [] → IsSearched c g states origins 0
searched_first c g sound states origins started none = record {
  begun = subst (IsBegun c g states) (sym none) (begun_first c g sound states started);
  worked = λ n s lt at. absurd (omega (arith, lt));
}

-- ---- all are worked

pub has_begun : (c : Client) (g : Ground) (states : List State) (origins : List Origin) → IsBegun c g states origins → HasBegun c g states
has_begun c g states origins begun = record { initial = begun.initial; initial_at = begun.initial_at; initial_is = begun.initial_is; met = begun.met }

pub all_searched : (c : Client) (g : Ground) (states : List State) (origins : List Origin) → IsSearched c g states origins (length states) → AreSearched c g states
all_searched c g states origins searched = record {
  begun = has_begun c g states origins searched.begun;
  worked = λ n s at. searched.worked n s (slice_get_within states n s at) at;
}

-- a state whose chosen steps all lead to kept states is worked
pub closed_moves : (c : Client) (t : Table) (states : List State) (n set : ℕ) (s : State) → AllMet c states → slice_get states n ≡ Some s → IsChoice c t s set → (set ≡ 0 → ⊥)
    → AreFollowed c (grounds.Steps t) states states n set 10 → IsWorkedAt c (grounds.Steps t) states n
closed_moves c t states n set s met here is some followed x at =
    let well : IsWellFormed c s = (met n s here).plausible.well_formed in
    let this : IsWorked c (grounds.Steps t) states s = record {
      kept = record { set = set; chosen = is; moves = chosen_followed c t s set states states n well is here followed };
      unstopped = λ over. absurd (some (over_chooses_none c t s set is over));
      explained = λ over. absurd (some (over_chooses_none c t s set is over));
    } in
    subst (IsWorked c (grounds.Steps t) states) (same_Some s x (sym here ∙ at)) this

-- so is one without a step that is good
pub closed_end : (c : Client) (t : Table) (states : List State) (n : ℕ) (s : State) → slice_get states n ≡ Some s → IsChoice c t s 0 → IsGoodAt c states n → IsWorkedAt c (grounds.Steps t) states n
closed_end c t states n s here is good x at =
    let one : good.state ≡ s = same_Some good.state s (sym good.at ∙ here) in
    let this : IsWorked c (grounds.Steps t) states s = record {
      kept = record { set = 0; chosen = is; moves = nobody_followed c t s states is };
      unstopped = λ over. subst HasNoStopped one good.good.unstopped;
      explained = λ over. subst (λ (y : State). HasOrder c.mode c.capacity y.history) one good.good.explained;
    } in
    subst (IsWorked c (grounds.Steps t) states) (same_Some s x (sym here ∙ at)) this

-- the initial state alone
pub started_begun : (c : Client) (g : Ground) → HasNoFault c → (states : List State) → IsStarted c g states → HasBegun c g states
started_begun c g sound states started = has_begun c g states [] (begun_first c g sound states started)

-- with a state that is met
pub begun_with : (c : Client) (g : Ground) (old new : List State) (s : State) (b : Bool) → HasBegun c g old → IsMet c s → new ≡ grown old s b → HasBegun c g new
begun_with c g old new s false begun met is = subst (HasBegun c g) (sym is) begun
begun_with c g old new s true begun met is = subst (HasBegun c g) (sym is) (record {
  initial = begun.initial;
  initial_at = old_item old s begun.initial 0 begun.initial_at;
  initial_is = begun.initial_is;
  met = λ n x here. of_longer old s x n here (λ e. begun.met n x e) (λ last same. subst (IsMet c) same met);
})

pub more_met : (c : Client) (g : Ground) (limit : ℕ) (states : List State) → HasBegun c g states → IsNumbered states → limit < length states → HasMore c limit
more_met c g limit states begun differ more = record { states = states; more = more; differ = differ; reached = λ n s at. (begun.met n s at).reached }

-- ---- by steps

led_or_none : (c : Client) (t : Table) (old new : List State) (n : ℕ) (a : Actor) (r : ℕ × Bool) → IsSuccessor c old new n a r → IsNext c (grounds.Steps t) old new n a r
led_or_none c t old new n a r next = record { from = next.from; to = next.to; at = next.at; leads = next.step; added = next.added }

pub next_by_steps : (c : Client) (t : Table) (old new : List State) (n : ℕ) (a : Actor) (o : Option (ℕ × Bool)) → IsSuccessorOrNone c old new n a o → IsNextOrNone c (grounds.Steps t) old new n a o
next_by_steps c t old new n a None (none, same) = (λ (can : CanGo c (grounds.Steps t) old n a). none (record { from = can.from; at = can.at; step = can.goes }), same)
next_by_steps c t old new n a (Some r) next = led_or_none c t old new n a r next

pub led_by_steps : (c : Client) (t : Table) (states : List State) (n m : ℕ) (a : Actor) → IsLed c (grounds.Steps t) states n a m → IsKeptSuccessor c states n a m
led_by_steps c t states n m a led = record { from = led.from; to = led.to; at = led.at; step = led.leads; number = led.number }

-- ---- by crossings

pub next_by_crossings : (c : Client) (own : ArrayTable) (t : Table) (old new : List State) (n : ℕ) (a : Actor) (o : Option (ℕ × Bool)) → IsArrivalOrNone c own t old new n a o → IsNextOrNone c (grounds.Crossings own t) old new n a o
next_by_crossings c own t old new n a None (none, same) = (λ (can : CanGo c (grounds.Crossings own t) old n a). none (record { from = can.from; at = can.at; move = can.goes }), same)
next_by_crossings c own t old new n a (Some r) is =
    record { from = is.from; to = is.stops.stop; at = is.at; leads = record { after = is.after; move = is.move; run = is.stops.run }; added = is.stops.added }
