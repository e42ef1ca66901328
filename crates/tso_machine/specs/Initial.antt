-- The threads of the machine before any step.
use Rattle.std.specs.Prelude.{ℕ, ◌+◌, List, [], ◌∷◌, length}
use Rattle.tso_line.specs.declared.instruction.CallKind.{CallKind}
use Rattle.tso_machine.specs.Activations.{Activation}
use Rattle.tso_model.specs.Labels.{Thread, Idle}

abbrev pub idle_thread : Thread Activation
idle_thread = record { begun = 0; core = Idle; buffer = [] }

-- the client's threads, and one more for a prologue
abbrev pub thread_count : List (List CallKind) → List CallKind → ℕ
thread_count threads [] = length threads
thread_count threads (k ∷ ks) = length threads + 1
