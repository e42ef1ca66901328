-- States with the actors that lead to them go on by one step.
use Rattle.std.proofs.Common.{◌≡◌, ◌∙◌, inl, inr, ℕ, ◌<◌, ◌++◌, ◌∷◌, [], List, length, map, Option, refl, sym, ap, subst, arith}
use Rattle.std.specs.Prelude.{IsSome}
use Rattle.std.proofs.lemmas.Bool.{cases_lt}
use Rattle.std.proofs.lemmas.List.{map-append}
use Rattle.std.proofs.lemmas.Option.{slice_get_past}
use Rattle.tso_choose.proofs.ChoosingLemmas.{at_number}
use Rattle.tso_choose.specs.Sets.{actor_at}
use Rattle.tso_compact.proofs.PathLemmas.{initial_is_plausible, steps_stay_plausible}
use Rattle.tso_compact.specs.Laws.{initial_of}
use Rattle.tso_compact.specs.Plans.{HasStep, IsStep}
use Rattle.tso_flow.specs.Faults.{HasNoFault}
use Rattle.tso_machine.specs.Programs.{program_of}
use Rattle.tso_model.proofs.Reduce.{steps_append}
use Rattle.tso_model.specs.Steps as model
use Rattle.tso_prog.specs.declared.client.Client.{Client}
use Rattle.tso_state.proofs.ClientLemmas.{few_threads}
use Rattle.tso_state.specs.Actors.{actor_of, number_of, thread_of}
use Rattle.tso_state.specs.Views.{state_of}
use Rattle.tso_state.specs.declared.actor.Actor.{Actor}
use Rattle.tso_state.specs.declared.state.State.{State}
use Rattle.tso_store.proofs.Performed.{no_thread}
use Rattle.tso_table.specs.Leading.{IsKept, actors_of}
use Rattle.tso_table.specs.declared.kept.Kept.{Kept}

has_step : (c : Client) (s t : State) (a : Actor) → IsStep c s a t → HasStep c s a
has_step c s t a e = subst (λ (o : Option _). IsSome o) (sym e) refl

-- who has a step is one of five threads
pub small_actor : (c : Client) (k : Kept) (a : Actor) → IsKept c k → HasStep c k.state a → thread_of a < 8
small_actor c k a h can = elim (cases_lt (thread_of a) (length k.state.threads)) [
  | inl less ↦ (let few = few_threads c in let n = h.plausible.well_formed.sizes.threads in omega (arith, less, few, n))
  | inr ge ↦ absurd (no_thread c k.state a (slice_get_past k.state.threads (thread_of a) ge) can)
]

pub small_thread : (c : Client) (k : Kept) (t : State) (a : Actor) → IsKept c k → IsStep c k.state a t → thread_of a < 8
small_thread c k t a h step = small_actor c k a h (has_step c k.state t a step)

actors_on : (ns : List ℕ) (a : Actor) → map actor_of (actors_of (ns ++ number_of a ∷ [])) ≡ map actor_of (actors_of ns) ++ actor_of a ∷ []
actors_on ns a =
    ap (map actor_of) (map-append actor_at ns (number_of a ∷ [])) ∙ map-append actor_of (actors_of ns) (actor_at (number_of a) ∷ [])
    ∙ ap (λ (b : Actor). map actor_of (actors_of ns) ++ actor_of b ∷ []) (at_number a)

pub next_is_kept : (c : Client) → HasNoFault c → (k n : Kept) (a : Actor) → IsKept c k → IsStep c k.state a n.state → n.actors ≡ k.actors ++ number_of a ∷ [] → IsKept c n
next_is_kept c sound k n a h step actors =
    let on = steps_append (model.step (program_of c)) (map actor_of (actors_of k.actors)) (actor_of a ∷ []) (initial_of c) (state_of k.state) (state_of n.state) h.leads (state_of n.state, step, refl) in
    let same : map actor_of (actors_of n.actors) ≡ map actor_of (actors_of k.actors) ++ actor_of a ∷ [] = ap (λ (ns : List ℕ). map actor_of (actors_of ns)) actors ∙ actors_on k.actors a in
    record {
      leads = rw same on;
      plausible = steps_stay_plausible c sound k.state n.state a h.plausible step;
    }

pub first_is_kept : (c : Client) (k : Kept) → state_of k.state ≡ initial_of c → k.actors ≡ [] → IsKept c k
first_is_kept c k e none = record { leads = rw none (sym e); plausible = initial_is_plausible c k.state e }
