-- Runs of labels and runs of compact steps of a client.
use Rattle.std.specs.Prelude.{◌≡◌, ℕ, List, Some, slice_get}
use Rattle.tso_compact.specs.Plans.{IsStep}
use Rattle.tso_machine.specs.Activations.{Activation}
use Rattle.tso_machine.specs.Control.{IsOnPath}
use Rattle.tso_machine.specs.Laws.{IsRunOf}
use Rattle.tso_machine.specs.Places.{first_memory}
use Rattle.tso_machine.specs.Programs.{program_of}
use Rattle.tso_model.specs.Labels.{Ended, Label, Machine, Run, after_labels, machine_of}
use Rattle.tso_model.specs.Reduce.{Steps}
use Rattle.tso_model.specs.Simulation.{EndsAlike, Followed, ReachesEnd}
use Rattle.tso_model.specs.States.{CompactThread, Executing, State, first_state}
use Rattle.tso_model.specs.Steps.{Actor, step}
use Rattle.tso_prog.specs.declared.client.Client.{Client}
use Rattle.tso_machine.specs.Soundness.{is_sound_or_past_end}
use Rattle.tso_model.specs.WellFormed as model
use Rattle.tso_state.specs.Views.{state_of}
use Rattle.tso_state.specs.WellFormed.{IsWellFormed, word_count}
use Rattle.tso_state.specs.declared.actor.Actor.{Actor as Mover}
use Rattle.tso_state.specs.declared.state.State.{State as Kept}

-- the client's compact state before any step
abbrev pub initial_of : Client → State Activation
initial_of c = first_state (program_of c) (first_memory c.arrays)

-- each run of labels, ended or not, is followed by compact steps from the initial state, with the history that its calls and returns make
abbrev pub RunsAreFollowed : Client → Type 0
RunsAreFollowed c = (ls : List Label) (m : Machine Activation) → IsRunOf c ls m → Followed (program_of c) (initial_of c) ls m

-- each run of labels goes on to an ended one, which compact steps reach too, with the history of its calls and returns and with its faults
abbrev pub RunsReachEnds : Client → Type 0
RunsReachEnds c = (ls : List Label) (m : Machine Activation) → IsRunOf c ls m → ReachesEnd (program_of c) (first_memory c.arrays) ls

-- each ended run is one of compact steps from the initial state, with the history of its calls and returns, and ends in the machine of the state where they end
abbrev pub EndedRunsEndAlike : Client → Type 0
EndedRunsEndAlike c = (ls : List Label) (m : Machine Activation) → IsRunOf c ls m → Ended (program_of c) m → EndsAlike (program_of c) (initial_of c) ls m

-- labels that lead from the machine of one state to that of another, with the history that they make
pub record IsLabelRun (c : Client) (s t : State Activation) (ls : List Label) : Type 0 where
  pub run : Run (program_of c) (machine_of s) ls (machine_of t)
  pub history : t.history ≡ after_labels s.history ls

-- each list of compact steps from the initial state is a run of labels
abbrev pub StepsGiveRuns : Client → Type 0
StepsGiveRuns c =
    (actors : List Actor) (t : State Activation) → Steps (step (program_of c)) (initial_of c) actors t → (ls : List Label) × IsLabelRun c (initial_of c) t ls

-- ---- well-formed states

-- a path of its procedure leads to each running call's position
abbrev pub AreOnPaths : Client → State Activation → Type 0
AreOnPaths c s = (i : ℕ) (t : CompactThread Activation) (a : Activation) → slice_get s.threads i ≡ Some t → t.core ≡ Executing a → IsOnPath c a

-- well-formed, with each running call where control can come: all that one state shows of having been reached
pub record IsPlausible (c : Client) (s : Kept) : Type 0 where
  pub well_formed : IsWellFormed c s
  pub paths : AreOnPaths c (state_of s)

-- the state before any step is so
abbrev pub InitialIsPlausible : Client → Type 0
InitialIsPlausible c = (s : Kept) → state_of s ≡ initial_of c → IsPlausible c s

-- and so is the state after each step of such a state
abbrev pub StepsStayPlausible : Client → Type 0
StepsStayPlausible c = (s t : Kept) (a : Mover) → IsPlausible c s → IsStep c s a t → IsPlausible c t

-- A step of any well-formed state leads to one that is well-formed but that a running call may stand just behind its last
-- instruction: where it was at a last one to which no path leads.
abbrev pub StepsStaySound : Client → Type 0
StepsStaySound c = (s t : Kept) (a : Mover) → IsWellFormed c s → IsStep c s a t → model.IsWellFormed (program_of c) (word_count c) (is_sound_or_past_end c) (state_of t)
