-- The states of a run, by their keys.
use Rattle.std.proofs.Common.{◌≡◌, ◌<◌, ◌^◌, List, length, Option, Some, None, refl, sym, subst}
use Rattle.std.specs.Prelude.{IsSome}
use Rattle.std.specs.Option.{option_map}
use Rattle.std.proofs.lemmas.Option.{none-some}
use Rattle.tso_compact.specs.declared.sort.StepKind.{StepKind}
use Rattle.tso_confluence.proofs.Leading.{free_moves_lead}
use Rattle.tso_confluence.proofs.Ground.{stops_stay}
use Rattle.tso_confluence.specs.Stops.{HasOneStop}
use Rattle.tso_crossing.specs.Moves.{parts}
use Rattle.tso_flow.specs.Faults.{HasNoFault}
use Rattle.tso_foot.specs.declared.table.ArrayTable.{ArrayTable}
use Rattle.tso_foot.specs.declared.table.Table.{Table}
use Rattle.tso_machine.specs.Programs.{program_of}
use Rattle.tso_move.proofs.CostLemmas.{moves_cost}
use Rattle.tso_move.proofs.RunLemmas.{stops_there}
use Rattle.tso_move.specs.Cost.{cost}
use Rattle.tso_move.specs.Own.{extent_of}
use Rattle.tso_move.specs.Parts.{part_kinds}
use Rattle.tso_move.specs.Free.{HasNoFree, IsFree}
use Rattle.tso_move.specs.Runs.{HasMove, LeadsTo}
use Rattle.tso_prog.specs.declared.client.Client.{Client}
use Rattle.tso_state.specs.Actors.{actor_of}
use Rattle.tso_state.specs.Views.{state_of}
use Rattle.tso_state.specs.declared.actor.Actor.{Actor}
use Rattle.tso_state.specs.declared.state.State.{State}
use Rattle.tso_keys.proofs.StateLemmas.{kept_of, key_more, key_state}
use Rattle.tso_keys.specs.Keys.{Grows, IsKept, state_at}
use Rattle.tso_keys.specs.declared.key.Key.{Key}
use Rattle.tso_keys.specs.declared.parts.Parts.{Parts}
use Rattle.tso_store.proofs.Movements.{grows_on}
use Rattle.tso_store.specs.Arriving.{IsArrivalOf, IsMoveKey, IsMoveOf, IsNextOf, IsStopOf}

-- ---- one move of a run

some_of : {X Y Z : Type 0} (f : X → Y) (g : X → Z) (o : Option X) (y : Y) → option_map f o ≡ Some y → IsSome (option_map g o)
some_of f g None y e = absurd (none-some y e)
some_of f g (Some x) y e = refl

has_parts : (c : Client) (own : ArrayTable) (s : State) (a : Actor) (kinds : List StepKind) → part_kinds c own s a ≡ Some kinds → HasMove c own s a
has_parts c own s a kinds e = some_of _ _ (parts (program_of c) (extent_of c own) (state_of s) (actor_of a)) kinds e

pub goes_next : (c : Client) (own : ArrayTable) (t : Table) (old new : Parts) (k next : Key) (a : Actor) → IsFree c own t (state_at old k) a → IsMoveOf c own old k a new next → IsNextOf c own t old k new next
goes_next c own t old new k next a free by = record { actor = a; free = free; moved = by }

-- a free actor has a move
pub moves_on : (c : Client) (own : ArrayTable) (t : Table) (old new : Parts) (k : Key) (a : Actor) → IsFree c own t (state_at old k) a → IsMoveKey c own old k a new None → ⊥
moves_on c own t old new k a free none = none (has_parts c own (state_at old k) a free.kinds free.parts)

-- ---- on the way

-- the run from the first state leads to that of this key, from which free actors go on in any order
pub record IsOnWay (c : Client) (own : ArrayTable) (t : Table) (old : Parts) (k : Key) (new : Parts) (last : Key) : Type 0 where
  pub kept : IsKept c new last
  pub grows : Grows old new
  pub one_stop : HasOneStop c own t (state_at new last)
  pub leads : LeadsTo c own t (state_at old k) (state_at new last)

pub grows_not : (p : Parts) → Grows p p
grows_not p = record { memories = λ i x e. e; histories = λ i x e. e; threads = λ i x e. e; small = λ s. s }

pub starts : (c : Client) (own : ArrayTable) (t : Table) (p : Parts) (k : Key) → IsKept c p k → HasOneStop c own t (state_at p k) → IsOnWay c own t p k p k
starts c own t p k kept one = record { kept = kept; grows = grows_not p; one_stop = one; leads = λ r run. run }

module _ (c : Client) (sound : HasNoFault c) (own : ArrayTable) (t : Table) (mid new : Parts) (last : Key) (small : length mid.threads < 2 ^ 32) (grows : Grows mid new) where
  pub goes_on : (old : Parts) (k next : Key) → IsOnWay c own t old k mid last → IsNextOf c own t mid last new next → IsOnWay c own t old k new next
  goes_on old k next way by =
      let is = sym (key_state new next by.moved.state (grows.small small) by.moved.key) in
      record {
        kept = kept_of c new next by.moved.state (grows.small small) by.moved.key by.moved.fits;
        grows = grows_on old mid new way.grows grows;
        one_stop = subst (HasOneStop c own t) is (stops_stay c sound own t (state_at mid last) by.moved.state by.actor way.one_stop by.moved.move);
        leads = subst (LeadsTo c own t (state_at old k)) is
            (λ r run. way.leads r (free_moves_lead c sound own t (state_at mid last) by.moved.state by.actor way.one_stop by.free by.moved.move r run));
      }

  pub costs_less : (old : Parts) (k next : Key) → IsOnWay c own t old k mid last → IsNextOf c own t mid last new next → cost c (state_at new next) < cost c (state_at mid last)
  costs_less old k next way by =
      let L : State → Type 0 = λ s. cost c s < cost c (state_at mid last) in
      subst L (sym (key_state new next by.moved.state (grows.small small) by.moved.key)) (moves_cost c own (state_at mid last) by.moved.state by.actor way.one_stop.plausible.well_formed by.moved.move)

  pub stops_on : (old : Parts) (k : Key) → IsOnWay c own t old k mid last → HasNoFree c own t (state_at mid last) → IsStopOf c own t (state_at old k) new last
  stops_on old k way stops = record {
    state = state_at mid last;
    run = stops_there c own t (state_at old k) (state_at mid last) way.leads (λ w. stops);
    key = key_more mid new last (state_at mid last) grows way.kept.key;
    fits = way.kept.fits;
  }

-- ---- behind a move

pub moved_kept : (c : Client) (own : ArrayTable) (old new : Parts) (k next : Key) (a : Actor) → length new.threads < 2 ^ 32 → IsMoveOf c own old k a new next → IsKept c new next
moved_kept c own old new k next a small by = kept_of c new next by.state small by.key by.fits

-- the state after the move has one stop, too
pub moved_stops : (c : Client) → HasNoFault c → (own : ArrayTable) (t : Table) (old new : Parts) (k next : Key) (a : Actor) → length new.threads < 2 ^ 32 → HasOneStop c own t (state_at old k) → IsMoveOf c own old k a new next
    → HasOneStop c own t (state_at new next)
moved_stops c sound own t old new k next a small one by =
    subst (HasOneStop c own t) (sym (key_state new next by.state small by.key)) (stops_stay c sound own t (state_at old k) by.state a one by.move)

pub arrived : (c : Client) (own : ArrayTable) (t : Table) (old mid new : Parts) (k after stop : Key) (a : Actor) → length mid.threads < 2 ^ 32 → IsMoveOf c own old k a mid after → IsStopOf c own t (state_at mid after) new stop
    → IsArrivalOf c own t old k a new stop
arrived c own t old mid new k after stop a small by stops =
    let S : State → Type 0 = λ s. IsStopOf c own t s new stop in
    record { after = by.state; move = by.move; stops = subst S (key_state mid after by.state small by.key) stops }
