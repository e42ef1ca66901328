-- What the model sees of the state before any step.
use Rattle.std.proofs.Common.{◌≡◌, ℕ, zero, suc, List, [], ◌∷◌, length, map, replicate, refl, sym, ap, subst, arith}
use Rattle.tso_machine.specs.Activations.{Activation}
use Rattle.tso_machine.specs.Places.{first_memory}
use Rattle.tso_machine.specs.Programs.{program_of}
use Rattle.tso_machine.specs.Soundness.{is_sound}
use Rattle.tso_model.proofs.WellFormed.{first_well_formed}
use Rattle.tso_model.specs.Programs.{CallKind}
use Rattle.tso_model.specs.States.{CompactThread, Resting, first_state}
use Rattle.tso_model.specs.WellFormed as model
use Rattle.tso_prog.specs.declared.client.Client.{Client}
use Rattle.tso_state.specs.declared.state.State.{State}
use Rattle.tso_state.specs.Initial.{idle_thread}
use Rattle.tso_state.specs.Views.{state_of, threads_view}
use Rattle.tso_state.specs.WellFormed.{IsWellFormed, word_count}
use Rattle.tso_state.proofs.ModelLemmas.{well_formed_alike}

abbrev resting : CompactThread Activation
resting = record { core = Resting; buffer = [] }

pub idle_threads_view : (n : ℕ) (kss : List (List CallKind)) → length kss ≡ n → threads_view (replicate n []) (replicate n idle_thread) ≡ map (λ ks. resting) kss
idle_threads_view zero [] e = refl
idle_threads_view zero (ks ∷ kss) e = absurd (omega (arith, e))
idle_threads_view (suc n) [] e = absurd (omega (arith, e))
idle_threads_view (suc n) (ks ∷ kss) e = ap (λ (l : List (CompactThread Activation)). resting ∷ l) (idle_threads_view n kss (omega (arith, e)))

-- what the model sees as the first state is well-formed
pub first_is_well_formed : (c : Client) (s : State) → state_of s ≡ first_state (program_of c) (first_memory c.arrays) → IsWellFormed c s
first_is_well_formed c s e =
    (well_formed_alike c s).1 (subst (λ v. model.IsWellFormed (program_of c) (word_count c) (is_sound c) v) (sym e) (first_well_formed (program_of c) (is_sound c) (first_memory c.arrays)))
