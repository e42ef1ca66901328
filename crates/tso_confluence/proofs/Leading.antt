-- Runs that begin with any free actor's move stop where the one does in which the lowest free actor moves.
use Rattle.std.proofs.Common.{◌≡◌, ◌≢◌, ◌∙◌, ℕ, zero, suc, ◌<◌, ◌⊎◌, inl, inr, Bool, true, false, List, Option, None, Some, refl, sym, ap, subst, arith}
use Rattle.std.proofs.lemmas.Bool.{cases_eq}
use Rattle.std.proofs.lemmas.Option.{none-some, same_Some}
use Rattle.std.specs.Option.{option_map}
use Rattle.tso_compact.specs.declared.sort.StepKind.{StepKind}
use Rattle.tso_confluence.proofs.Backs.{state_back, state_there}
use Rattle.tso_confluence.proofs.Ground.{ground_after, is_ground, stops_stay}
use Rattle.tso_confluence.proofs.Meeting.{free_moves_meet}
use Rattle.tso_confluence.proofs.Staying.{free_stays_free}
use Rattle.tso_confluence.proofs.Views.{same_state}
use Rattle.tso_confluence.specs.Laws.{AreMet, FreeMovesLead}
use Rattle.tso_confluence.specs.Stops.{HasOneStop}
use Rattle.tso_crossing.proofs.AsSteps.{late_is}
use Rattle.tso_crossing.specs.Moves.{late_move, parts, perform_all}
use Rattle.tso_flow.specs.Faults.{HasNoFault}
use Rattle.tso_foot.specs.declared.table.ArrayTable.{ArrayTable}
use Rattle.tso_foot.specs.declared.table.Table.{Table}
use Rattle.tso_machine.specs.Activations.{Activation}
use Rattle.tso_machine.specs.Programs.{program_of}
use Rattle.tso_model.specs.Steps as model
use Rattle.tso_move.proofs.CostLemmas.{moves_cost}
use Rattle.tso_move.specs.Cost.{cost}
use Rattle.tso_move.specs.Free.{IsFree, IsLowestFree, is_free_of}
use Rattle.tso_move.specs.Own.{extent_of}
use Rattle.tso_move.specs.Parts.{part_kinds}
use Rattle.tso_move.specs.Runs.{Goes, IsMove, IsRun, Stops}
use Rattle.tso_prog.specs.declared.client.Client.{Client}
use Rattle.tso_state.specs.Actors.{actor_of, number_of, thread_of}
use Rattle.tso_state.specs.Views.{state_of}
use Rattle.tso_state.specs.declared.actor.Actor.{Actor}
use Rattle.tso_state.specs.declared.actor.Actor.TheVariants.{Drain, Exec}
use Rattle.tso_state.specs.declared.state.State.{State}

-- ---- actors by their numbers

numbered : (k : ℕ) → (a : Actor) × (number_of a ≡ k)
numbered zero = (Exec 0, refl)
numbered (suc zero) = (Drain 0, refl)
numbered (suc (suc k)) = let (a, is) = numbered k in two_more a is
  where
    two_more : (a : Actor) → number_of a ≡ k → (b : Actor) × (number_of b ≡ suc (suc k))
    two_more (Exec i) is = (Exec (suc i), omega (arith, is))
    two_more (Drain i) is = (Drain (suc i), omega (arith, is))

same_number : (a b : Actor) → number_of a ≡ number_of b → a ≡ b
same_number (Exec i) (Exec j) e = let k : i ≡ j = omega (arith, e) in ap Exec k
same_number (Exec i) (Drain j) e = absurd (omega (arith, e))
same_number (Drain i) (Exec j) e = absurd (omega (arith, e))
same_number (Drain i) (Drain j) e = let k : i ≡ j = omega (arith, e) in ap Drain k

one_or_other : (a b : Actor) → (a ≡ b) ⊎ (a ≢ b)
one_or_other a b = elim (cases_eq (number_of a) (number_of b)) [
  | inl same ↦ inl (same_number a b same)
  | inr other ↦ inr (λ e. other (ap number_of e))
]

-- ---- the lowest free actor

module _ (c : Client) (own : ArrayTable) (t : Table) (s : State) where
  decided : (a : Actor) (o : Option (List StepKind)) → part_kinds c own s a ≡ o → IsFree c own t s a ⊎ (IsFree c own t s a → ⊥)
  decided a None at = inr (λ free. none-some free.kinds (sym at ∙ free.parts))
  decided a (Some found) at = by (is_free_of c t s (thread_of a) found) refl
    where
      by : (b : Bool) → is_free_of c t s (thread_of a) found ≡ b → IsFree c own t s a ⊎ (IsFree c own t s a → ⊥)
      by true is = inl (record { kinds = found; parts = at; passes = is })
      by false is = inr (λ free.
          let same : found ≡ free.kinds = same_Some found free.kinds (sym at ∙ free.parts) in
          let clash : false ≡ true = sym is ∙ ap (is_free_of c t s (thread_of a)) same ∙ free.passes in
          cc)

  abbrev NoneBelow : ℕ → Type 0
  NoneBelow k = (b : Actor) → number_of b < k → IsFree c own t s b → ⊥

  -- no actor with a lower number is free, or one of them is the lowest free one
  searched : (k : ℕ) → NoneBelow k ⊎ ((b : Actor) × IsLowestFree c own t s b)
  searched zero = inl (λ b lt free. omega (arith, lt))
  searched (suc k) = elim (searched k) [
    | inr found ↦ inr found
    | inl none ↦ (let (a, is) = numbered k in elim (decided a (part_kinds c own s a) refl) [
      | inl free ↦ inr (a, record { free = free; lowest = λ b lt other. none b (subst (λ m. number_of b < m) is lt) other })
      | inr not ↦ inl (λ b lt free. elim (cases_eq (number_of b) k) [
        | inl same ↦ not (subst (IsFree c own t s) (same_number b a (same ∙ sym is)) free)
        | inr other ↦ none b (omega (arith, lt, other)) free
      ])
    ])
  ]

  -- where an actor is free one is the lowest
  lowest : (a : Actor) → IsFree c own t s a → (b : Actor) × IsLowestFree c own t s b
  lowest a free = elim (searched (suc (number_of a))) [
    | inl none ↦ absurd (none_there none)
    | inr found ↦ found
  ]
    where
      none_there : NoneBelow (suc (number_of a)) → ⊥
      none_there none = none a (omega arith) free

-- ---- runs

module _ (c : Client) (sound : HasNoFault c) (own : ArrayTable) (t : Table) where
  -- the two states' runs stop in the same states
  record StopAlike (s s' : State) : Type 0 where
    forth : (r : State) → IsRun c own t s' r → IsRun c own t s r
    back : (r : State) → IsRun c own t s r → IsRun c own t s' r

  -- a free actor's move leads to a state
  leads : (s : State) (a : Actor) → HasOneStop c own t s → IsFree c own t s a → (y : State) × IsMove c own s a y
  leads s a h free = go (parts (program_of c) (extent_of c own) (state_of s) (actor_of a)) refl
    where
      go : (o : Option (List (model.Move Activation))) → parts (program_of c) (extent_of c own) (state_of s) (actor_of a) ≡ o → (y : State) × IsMove c own s a y
      go None at = absurd (none-some free.kinds (sym (ap (option_map _) at) ∙ free.parts))
      go (Some ms) at =
          let m = perform_all (state_of s) (model.thread_of (actor_of a)) ms in
          let goes : late_move (program_of c) (extent_of c own) (state_of s) (actor_of a) ≡ Some m = late_is (program_of c) (extent_of c own) (state_of s) (actor_of a) ms at in
          let g = ground_after c own t s h (state_of s) m (actor_of a) (is_ground c own t s h) goes in
          (state_back m, goes ∙ ap Some (sym (state_there c t m g.0)))

  less : (s s' : State) (a : Actor) (n : ℕ) → HasOneStop c own t s → IsMove c own s a s' → cost c s < suc n → cost c s' < n
  less s s' a n h move lt = let one = moves_cost c own s s' a h.plausible.well_formed move in omega (arith, lt, one)

  -- so it is of free actors' moves of states that cost less
  abbrev AlikeBelow : ℕ → Type 0
  AlikeBelow n = (s s' : State) (a : Actor) → cost c s < n → HasOneStop c own t s → IsFree c own t s a → IsMove c own s a s' → StopAlike s s'

  module _ (n : ℕ) (below : AlikeBelow n) (s s' : State) (a : Actor) (lt : cost c s < suc n) (h : HasOneStop c own t s) (free : IsFree c own t s a) (move : IsMove c own s a s') where
    -- another free actor's move leads to a state whose runs stop where those of s' do: both lead on to one state
    beside : (b : Actor) (y : State) → a ≢ b → IsFree c own t s b → IsMove c own s b y → StopAlike s' y
    beside b y ne other to =
        let met : AreMet c own s' y a b = free_moves_meet c own t s s' y a b h ne free other move to in
        let here : StopAlike s' met.both =
        below s' met.both b (less s s' a n h move lt) (stops_stay c sound own t s s' a h move) (free_stays_free c own t s s' b a h (λ e. ne (sym e)) other move) met.first in
        let there : StopAlike y met.both =
        below y met.both a (less s y b n h to lt) (stops_stay c sound own t s y b h to) (free_stays_free c own t s y a b h ne free to) met.second in
        record { forth = λ r run. here.forth r (there.back r run); back = λ r run. there.forth r (here.back r run) }

    forth_here : (r : State) → IsRun c own t s' r → IsRun c own t s r
    forth_here r run =
        let (b, low) = lowest c own t s a free in
        elim (one_or_other a b) [
          | inl same ↦ Goes s s' r a h.plausible.well_formed (subst (IsLowestFree c own t s) (sym same) low) move run
          | inr ne ↦ (let (y, to) = leads s b h low.free in Goes s y r b h.plausible.well_formed low to ((beside b y ne low.free to).back r run))
        ]

    back_here : (r : State) → IsRun c own t s r → IsRun c own t s' r
    back_here r (Stops z stops) = absurd (stops h.plausible.well_formed a free)
    back_here r (Goes z y q b w low to run) = elim (one_or_other a b) [
      | inl same ↦ (let there : state_of y ≡ state_of s' = same_Some (state_of y) (state_of s') (sym to ∙ subst (λ x. IsMove c own s x s') same move) in subst (λ x. IsRun c own t x r) (same_state y s' there) run)
      | inr ne ↦ (beside b y ne low.free to).forth r run
    ]

  stop_alike : (n : ℕ) → AlikeBelow n
  stop_alike zero s s' a lt h free move = absurd (omega (arith, lt))
  stop_alike (suc n) s s' a lt h free move = record { forth = forth_here n (stop_alike n) s s' a lt h free move; back = back_here n (stop_alike n) s s' a lt h free move }

pub free_moves_lead : (c : Client) → HasNoFault c → FreeMovesLead c
free_moves_lead c sound own t s s' a h free move = (stop_alike c sound own t (suc (cost c s)) s s' a (omega arith) h free move).forth
