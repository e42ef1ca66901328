-- The labels of a step are a run.
use Rattle.std.proofs.Common.{◌≡◌, ◌∙◌, ℕ, List, map, sym, ap, subst}
use Rattle.tso_compact.specs.Motions.{access_of, labels_in, labels_of_motion}
use Rattle.tso_compact.specs.Plans.{HasHistories, IsRunOfStep, thread_in}
use Rattle.tso_compact.specs.declared.motion.Motion.{Motion}
use Rattle.tso_machine.specs.Machines.{label_of}
use Rattle.tso_machine.specs.Programs.{program_of}
use Rattle.tso_machine.specs.declared.label.Label.{Label}
use Rattle.tso_model.proofs.Labelled as model
use Rattle.tso_model.specs.Labels.{Label as ModelLabel, Run, machine_of}
use Rattle.tso_model.specs.Relation.{IsShaped}
use Rattle.tso_model.specs.StepLabels.{labels_of}
use Rattle.tso_model.specs.Steps.{word_read}
use Rattle.tso_prog.specs.declared.client.Client.{Client}
use Rattle.tso_hist.specs.Views.{called_view}
use Rattle.std.proofs.lemmas.List.{length-map}
use Rattle.tso_state.proofs.ViewLemmas.{length-threads_view}
use Rattle.tso_state.specs.Actors.{actor_of, thread_of}
use Rattle.tso_state.specs.Views.{state_of}
use Rattle.tso_state.specs.declared.actor.Actor.{Actor}
use Rattle.tso_state.specs.declared.state.State.{State}

pub shaped : (s : State) → HasHistories s → IsShaped (state_of s)
shaped s h = length-map s.history (map called_view) ∙ h.lists ∙ sym (length-threads_view s.history s.threads)

pub labels_run : (c : Client) (s : State) (a : Actor) (i : ℕ) (m : Motion) (ls : List Label)
    → i ≡ thread_of a → ls ≡ labels_of_motion (word_read s.memory (access_of (thread_in s i) m)) i (thread_in s i) m
    → labels_in s.memory (thread_of a) (thread_in s (thread_of a)) m ≡ labels_of (program_of c) (state_of s) (actor_of a)
    → HasHistories s → IsRunOfStep c s a ls
labels_run c s a i m ls number are labelled lists t step =
    let same : map label_of ls ≡ labels_of (program_of c) (state_of s) (actor_of a) =
    ap (map label_of) are ∙ ap (λ k. labels_in s.memory k (thread_in s k) m) number ∙ labelled in
    let Q : List ModelLabel → Type 0 = λ xs. Run (program_of c) (machine_of (state_of s)) xs (machine_of (state_of t)) in
    subst Q (sym same) (model.steps_are_runs (program_of c) (state_of s) (actor_of a) (state_of t) (shaped s lists) step)
