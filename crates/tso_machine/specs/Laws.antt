-- What is known of the runs of a checked client's machine.
use Rattle.std.specs.Prelude.{◌≡◌, ◌⊎◌, ℕ, ◌≤◌, List, length, IsTrue}
use Rattle.tso_prog.specs.declared.client.Client.{Client}
use Rattle.tso_flow.specs.Calls.{calls_of_client, step_limit}
use Rattle.tso_machine.specs.Activations.{Activation}
use Rattle.tso_machine.specs.Control.{AllOnPaths, GoesOnWith, IsAtBound, IsNext, IsOnPath}
use Rattle.tso_machine.specs.Instructions.{next_action}
use Rattle.tso_machine.specs.Places.{first_memory}
use Rattle.tso_machine.specs.Programs.{program_of, start_of}
use Rattle.tso_machine.specs.Soundness.{is_sound, is_sound_or_past_end, rank}
use Rattle.tso_model.specs.Bounds.{AreLabelsFew, Follows}
use Rattle.tso_model.specs.Faults.{HasFaultOf, IsStoppedAt}
use Rattle.tso_model.specs.Invariants.{AllWithin, IsGuarded}
use Rattle.tso_model.specs.Labels.{Ended, Label, Machine, Run, first_machine}
use Rattle.tso_model.specs.Measure.{AllSound, IsRanked}
use Rattle.tso_model.specs.Programs.{CallKind, Cut}

-- the labels lead from the client's machine before any step to this one
abbrev pub IsRunOf : Client → List Label → Machine Activation → Type 0
IsRunOf c ls m = Run (program_of c) (first_machine (program_of c) (first_memory c.arrays)) ls m

-- ---- bounds

-- in the frames that can occur each instruction lowers the count of those left, and stores inside the memory
abbrev pub AreFramesRanked : Client → Type 0
AreFramesRanked c = IsRanked (program_of c) (length (first_memory c.arrays)) (is_sound_or_past_end c) (rank c)

-- no run has more labels than the client's limit
abbrev pub RunsAreShort : Client → Type 0
RunsAreShort c = (ls : List Label) (m : Machine Activation) → IsRunOf c ls m → length ls ≤ step_limit c

-- every run goes on to an ended one
abbrev pub RunsEnd : Client → Type 0
RunsEnd c =
    (ls : List Label) (m : Machine Activation) → IsRunOf c ls m
    → (more : List Label) × (end : Machine Activation) × Run (program_of c) m more end × Ended (program_of c) end

-- at each machine at most two labels follow for each thread, one of its core and one of its buffer
abbrev pub LabelsAreFew : Client → Type 0
LabelsAreFew c = (m : Machine Activation) → AreLabelsFew (program_of c) m

-- some label follows, or none does: this is decided for each machine
abbrev pub EndsAreDecided : Client → Type 0
EndsAreDecided c = (m : Machine Activation) → Ended (program_of c) m ⊎ Follows (program_of c) m

-- ---- paths of control

-- a call starts on a path
abbrev pub CallsStartOnPaths : Client → Type 0
CallsStartOnPaths c = (call : CallKind) → IsOnPath c (start_of c call)

-- each instruction goes on along an edge of its procedure
abbrev pub InstructionsFollowEdges : Client → Type 0
InstructionsFollowEdges c = (a : Activation) → GoesOnWith (IsNext c a) (next_action c a)

-- from a call that is on a path each instruction goes on with one that is on a path
abbrev pub InstructionsFollowPaths : Client → Type 0
InstructionsFollowPaths c = (a : Activation) → IsOnPath c a → GoesOnWith (IsOnPath c) (next_action c a)

-- a call in a frame that can occur is cut nowhere but at a jump back that is at its bound
abbrev pub CutsAreBounds : Client → Type 0
CutsAreBounds c = (call : CallKind) (a : Activation) → IsTrue (is_sound c call a) → next_action c a ≡ Cut → IsAtBound c a

-- ---- what holds of each machine that a run leads to

-- memory has the words of all arrays, and there is a thread for each list of calls
pub record HasSizes (c : Client) (m : Machine Activation) : Type 0 where
  pub memory : length m.memory ≡ length (first_memory c.arrays)
  pub threads : length m.threads ≡ length (calls_of_client c)

abbrev pub SizesStay : Client → Type 0
SizesStay c = (ls : List Label) (m : Machine Activation) → IsRunOf c ls m → HasSizes c m

-- each buffered place is that of a word of an array
abbrev pub BuffersStayWithin : Client → Type 0
BuffersStayWithin c = (ls : List Label) (m : Machine Activation) → IsRunOf c ls m → AllWithin (length (first_memory c.arrays)) m

-- each running call's frame can occur in a call: an instruction stands at its position, and no count is above its bound
abbrev pub FramesStaySound : Client → Type 0
FramesStaySound c = (ls : List Label) (m : Machine Activation) → IsRunOf c ls m → AllSound (is_sound c) m

-- a path of its procedure leads to each running call's position
abbrev pub FramesStayOnPaths : Client → Type 0
FramesStayOnPaths c = (ls : List Label) (m : Machine Activation) → IsRunOf c ls m → AllOnPaths c m

-- the lock's holder is in its section, with at most the section's own entry in its buffer, and no other thread is in a section
abbrev pub SectionsAreGuarded : Client → Type 0
SectionsAreGuarded c = (ls : List Label) (m : Machine Activation) → IsRunOf c ls m → IsGuarded (program_of c) m

-- a stopped core stays stopped, whatever follows
abbrev pub StopsAreFinal : Client → Type 0
StopsAreFinal c = (m m' : Machine Activation) (ls : List Label) (i : ℕ) → Run (program_of c) m ls m' → IsStoppedAt m i → IsStoppedAt m' i

-- a core is stopped after a run exactly where its thread has a fault in the run
pub record IsStoppedByFault (ls : List Label) (m : Machine Activation) (i : ℕ) : Type 0 where
  pub stops : HasFaultOf ls i → IsStoppedAt m i
  pub faults : IsStoppedAt m i → HasFaultOf ls i

abbrev pub StopsAreFaults : Client → Type 0
StopsAreFaults c = (ls : List Label) (m : Machine Activation) (i : ℕ) → IsRunOf c ls m → IsStoppedByFault ls m i
