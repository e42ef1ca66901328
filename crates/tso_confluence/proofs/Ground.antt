-- States from which free actors may move in any order: what the model says of them, and that each move leads to such a state.
use Rattle.std.proofs.Common.{◌≡◌, Bool, true, false, ◌&&◌, List, [], ◌∷◌, ◌++◌, Some, refl, subst}
use Rattle.std.proofs.lemmas.Bool.{and_parts}
use Rattle.tso_compact.proofs.PathLemmas.{paths_stay, strictly}
use Rattle.tso_compact.specs.Laws.{AreOnPaths, IsPlausible, initial_of}
use Rattle.tso_confluence.specs.Laws.{StopsStay}
use Rattle.tso_confluence.specs.Stops.{HasOneStop}
use Rattle.tso_crossing.proofs.AsSteps.{moves_are_steps}
use Rattle.tso_crossing.proofs.Unwritten.{IsUnwritten, apart_unwritten}
use Rattle.tso_crossing.specs.Moves.{late_move}
use Rattle.tso_crossing.specs.Own.{IsApart}
use Rattle.tso_flow.specs.Faults.{HasNoFault}
use Rattle.tso_foot.proofs.WithinLemmas.{closed_is_ranked, closed_is_the_models, reached_is_within, within_is_sound}
use Rattle.tso_foot.specs.Laws.{arrays_view, table_view}
use Rattle.tso_foot.specs.Within.{is_within, lies_in}
use Rattle.tso_foot.specs.declared.table.ArrayTable.{ArrayTable}
use Rattle.tso_foot.specs.declared.table.Table.{Table}
use Rattle.tso_foot.specs.declared.table.Table.TheVariants.{Arrays}
use Rattle.tso_machine.proofs.Ranked.{ranked}
use Rattle.tso_machine.specs.Activations.{Activation}
use Rattle.tso_machine.specs.Places.{first_memory}
use Rattle.tso_machine.specs.Programs.{program_of}
use Rattle.tso_machine.specs.Soundness.{is_sound_or_past_end, rank}
use Rattle.tso_model.proofs.Moves as moves
use Rattle.tso_model.proofs.Persistent.{IsInvariant}
use Rattle.tso_model.proofs.Reduce.{steps_append}
use Rattle.tso_model.proofs.Theorems.{first_is_well_formed, steps_stay_well_formed, tables_hold_futures}
use Rattle.tso_model.proofs.WellFormed as well_formed
use Rattle.tso_model.specs.Measure.{IsRanked}
use Rattle.tso_model.specs.Reasons.{IsFuture}
use Rattle.tso_model.specs.Reduce.{Steps}
use Rattle.tso_model.specs.States as states
use Rattle.tso_model.specs.Steps as model
use Rattle.tso_model.specs.Table.{IsTableClosed, table_future}
use Rattle.tso_model.specs.WellFormed as well
use Rattle.tso_move.proofs.ApartLemmas.{initial_is_apart}
use Rattle.tso_move.specs.Own.{extent_of}
use Rattle.tso_move.specs.Runs.{IsMove}
use Rattle.tso_prog.specs.declared.client.Client.{Client}
use Rattle.tso_state.proofs.ModelLemmas.{may_be_past_end, well_formed_alike}
use Rattle.tso_state.specs.Actors.{actor_of}
use Rattle.tso_state.specs.Views.{state_of}
use Rattle.tso_state.specs.WellFormed.{word_count}
use Rattle.tso_state.specs.declared.actor.Actor.{Actor}
use Rattle.tso_state.specs.declared.state.State.{State}

-- ---- plausible states

abbrev Passable : Client → states.State Activation → Type 0
Passable c m = well.IsWellFormed (program_of c) (word_count c) (is_sound_or_past_end c) m × AreOnPaths c m

passable_after : (c : Client) → HasNoFault c → (m m' : states.State Activation) (a : model.Actor) → Passable c m → model.step (program_of c) m a ≡ Some m' → Passable c m'
passable_after c sound m m' a (w, on) e = (
  steps_stay_well_formed Activation (program_of c) (word_count c) (is_sound_or_past_end c) (rank c) (ranked c) m m' a w e,
  paths_stay c sound m m' a on e,
)

passable_on : (c : Client) → HasNoFault c → (m m' : states.State Activation) (actors : List model.Actor) → Passable c m → Steps (model.step (program_of c)) m actors m' → Passable c m'
passable_on c sound m m' [] p e = subst (Passable c) e p
passable_on c sound m m' (a ∷ rest) p (next, one, more) = passable_on c sound next m' rest (passable_after c sound m next a p one) more

-- steps from a plausible state lead to plausible ones
plausible_along : (c : Client) → HasNoFault c → (s t : State) (actors : List model.Actor) → IsPlausible c s → Steps (model.step (program_of c)) (state_of s) actors (state_of t) → IsPlausible c t
plausible_along c sound s t actors p path =
    let (w, on) = passable_on c sound (state_of s) (state_of t) actors (may_be_past_end c s p.well_formed, p.paths) path in
    record { well_formed = (well_formed_alike c t).1 (strictly c (state_of t) on w); paths = on }

-- a move, as steps of its actor
pub as_path : (c : Client) (own : ArrayTable) (s s' : State) (a : Actor) → IsMove c own s a s' → (actors : List model.Actor) × Steps (model.step (program_of c)) (state_of s) actors (state_of s')
as_path c own s s' a e =
    let (first, rest, one, same, more) = moves_are_steps Activation (program_of c) (extent_of c own) (state_of s) (state_of s') (actor_of a) e in
    (actor_of a ∷ rest, (first, one, more))

pub stops_stay : (c : Client) → HasNoFault c → StopsStay c
stops_stay c sound own t s s' a h e =
    let (actors, path) = as_path c own s s' a e in
    let (before, so_far) = h.reached in
    record {
      closed_own = h.closed_own;
      closed = h.closed;
      reached = (before ++ actors, steps_append (model.step (program_of c)) before actors (initial_of c) (state_of s) (state_of s') so_far path);
      plausible = plausible_along c sound s s' actors h.plausible path;
    }

-- ---- what the model says

-- a table of arrays is closed at fewer frames too
fewer_closed : (c : Client) (own : ArrayTable) (t : Table) → IsTableClosed (program_of c) (is_within c (Arrays own)) (arrays_view c own) → IsTableClosed (program_of c) (is_within c t) (arrays_view c own)
fewer_closed c own t closed f (k, sound) = closed f (k, and_true _ (and_parts (is_sound_or_past_end c k f) (lies_in t f) sound).0)
  where
    and_true : (x : Bool) → x ≡ true → (x && true) ≡ true
    and_true true h = refl
    and_true false h = h

-- the model's well-formed states
abbrev pub IsSound : Client → Table → states.State Activation → Type 0
IsSound c t m = well.IsWellFormed (program_of c) (word_count c) (is_within c t) m

-- those of them at which no other thread writes what openings may read
abbrev pub IsGround : Client → ArrayTable → Table → states.State Activation → Type 0
IsGround c own t m = IsSound c t m × IsApart (program_of c) (extent_of c own) (table_future (program_of c) (arrays_view c own)) m

pub own_closed : (c : Client) (own : ArrayTable) (t : Table) (s : State) → HasOneStop c own t s → IsTableClosed (program_of c) (is_within c t) (arrays_view c own)
own_closed c own t s h = fewer_closed c own t (closed_is_the_models c (Arrays own) h.closed_own)

pub is_sound : (c : Client) (own : ArrayTable) (t : Table) (s : State) → HasOneStop c own t s → IsSound c t (state_of s)
is_sound c own t s h = within_is_sound c t s h.plausible.well_formed (reached_is_within c t s h.reached.0 h.closed h.reached.1)

-- what the closed table of arrays says of these states' futures
own_laws : (c : Client) (own : ArrayTable) (t : Table) (s : State) → HasOneStop c own t s → IsFuture (program_of c) (IsSound c t) (table_future (program_of c) (arrays_view c own))
own_laws c own t s h = tables_hold_futures Activation (program_of c) (word_count c) (is_within c t) (arrays_view c own) (own_closed c own t s h)

pub table_laws : (c : Client) (own : ArrayTable) (t : Table) (s : State) → HasOneStop c own t s → IsFuture (program_of c) (IsSound c t) (table_future (program_of c) (table_view c t))
table_laws c own t s h = tables_hold_futures Activation (program_of c) (word_count c) (is_within c t) (table_view c t) (closed_is_the_models c t h.closed)

pub is_ranked : (c : Client) (own : ArrayTable) (t : Table) (s : State) → HasOneStop c own t s → IsRanked (program_of c) (word_count c) (is_within c t) (rank c)
is_ranked c own t s h = closed_is_ranked c t h.closed

pub unwritten : (c : Client) (own : ArrayTable) (t : Table) (s : State) → HasOneStop c own t s → IsUnwritten (program_of c) (extent_of c own) (IsGround c own t)
unwritten c own t s h =
    apart_unwritten (program_of c) (extent_of c own) (word_count c) (is_within c t) (rank c) (is_ranked c own t s h) (table_future (program_of c) (arrays_view c own)) (own_laws c own t s h)

ground_along : (c : Client) (own : ArrayTable) (t : Table) (s : State) → HasOneStop c own t s → (actors : List model.Actor) (m m' : states.State Activation) → IsGround c own t m
    → Steps (model.step (program_of c)) m actors m' → IsGround c own t m'
ground_along c own t s h [] m m' g e = subst (IsGround c own t) e g
ground_along c own t s h (a ∷ rest) m m' g (next, one, more) = ground_along c own t s h rest next m' ((unwritten c own t s h).stays m next a g one) more

first_ground : (c : Client) (own : ArrayTable) (t : Table) → IsGround c own t (initial_of c)
first_ground c own t = (first_is_well_formed Activation (program_of c) (is_within c t) (first_memory c.arrays), initial_is_apart c own)

pub is_ground : (c : Client) (own : ArrayTable) (t : Table) (s : State) → HasOneStop c own t s → IsGround c own t (state_of s)
is_ground c own t s h = ground_along c own t s h h.reached.0 (initial_of c) (state_of s) (first_ground c own t) h.reached.1

pub invariant : (c : Client) (own : ArrayTable) (t : Table) (s : State) → HasOneStop c own t s → IsInvariant (program_of c) (IsGround c own t)
invariant c own t s h = record {
  in_range = λ x v i th at. (let e = v.0.memory in let b = v.0.buffers i th at in rw e b);
  stays = λ x b m v e. (unwritten c own t s h).stays x (model.perform x (model.thread_of b) m) b v (moves.step_is (program_of c) x b m e);
  alone = λ x b d m m' v pro ne eb ed. well_formed.alone (program_of c) (word_count c) (is_within c t) x b d m m' v.0 pro ne eb ed;
}

-- moves lead to such states again
pub ground_after : (c : Client) (own : ArrayTable) (t : Table) (s : State) → HasOneStop c own t s → (m m' : states.State Activation) (a : model.Actor) → IsGround c own t m
    → late_move (program_of c) (extent_of c own) m a ≡ Some m' → IsGround c own t m'
ground_after c own t s h m m' a g e =
    let (first, rest, one, same, more) = moves_are_steps Activation (program_of c) (extent_of c own) m m' a e in
    ground_along c own t s h (a ∷ rest) m m' g (first, one, more)
