-- The compact step as one would write it down, with no moves.
use Rattle.std.specs.Prelude.{◌≡◌, ℕ, List, [], ◌∷◌, ◌++◌, Option, Some, None, slice_get, slice_set, slice_index_or}
use Rattle.std.specs.Option.{option_and_then}
use Rattle.tso_model.specs.Programs.{Action, Barrier, CallKind, Cut, Fail, Load, Locked, Program, Ret, Silent, Store}
use Rattle.tso_model.specs.Prologue.{next_call}
use Rattle.tso_model.specs.States.{Buffer, Called, CompactCore, Resting, Executing, State, Halted, answered, begun_call, calls_in, word_seen}
use Rattle.tso_model.specs.Steps.{Actor, Drains, Exec, step}

-- thread i of s has this core and buffer now, over this memory and history
abbrev pub to : {F : Type 0} → State F → ℕ → List ℕ → CompactCore F → Buffer → List (List Called) → Option (State F)
to s i memory core buffer history = Some (record { memory = memory; threads = slice_set s.threads i (record { core = core; buffer = buffer }); history = history })

-- the next instruction, with this buffer
abbrev pub run_action : {F : Type 0} → State F → ℕ → Buffer → Action F → Option (State F)
run_action s i b (Silent g) = to s i s.memory (Executing g) b s.history
run_action s i b (Load p k) = to s i s.memory (Executing (k (word_seen b s.memory p))) b s.history
run_action s i b (Store p v g) = to s i s.memory (Executing g) (b ++ (p, v) ∷ []) s.history
run_action s i [] (Barrier g) = to s i s.memory (Executing g) [] s.history
run_action s i (e ∷ b) (Barrier g) = None
run_action s i [] (Locked p new k) = to s i (slice_set s.memory p (new (slice_index_or s.memory p 0))) (Executing (k (slice_index_or s.memory p 0))) [] s.history
run_action s i (e ∷ b) (Locked p new k) = None
run_action s i b (Ret a) = to s i s.memory Resting b (slice_set s.history i (answered a (calls_in s.history i)))
run_action s i b (Fail n) = to s i s.memory Halted b s.history
run_action s i b Cut = None

-- the call that may begin now begins
abbrev pub run_call : {F : Type 0} → Program F → State F → ℕ → Buffer → Option CallKind → Option (State F)
run_call p s i b None = None
run_call p s i b (Some k) = to s i s.memory (Executing (p.start k)) b (slice_set s.history i (calls_in s.history i ++ begun_call k s.history ∷ []))

-- what the core does next
abbrev pub run_core : {F : Type 0} → Program F → State F → ℕ → Buffer → CompactCore F → Option (State F)
run_core p s i b Resting = run_call p s i b (next_call p s i)
run_core p s i b Halted = None
run_core p s i b (Executing f) = run_action s i b (p.next f)

-- the oldest entry of the buffer goes to memory
abbrev pub run_drain : {F : Type 0} → State F → ℕ → CompactCore F → Buffer → Option (State F)
run_drain s i c [] = None
run_drain s i c (e ∷ rest) = to s i (slice_set s.memory e.0 e.1) c rest s.history

-- the actor's step
abbrev pub direct : {F : Type 0} → Program F → State F → Actor → Option (State F)
direct p s (Exec i) = option_and_then (λ t. run_core p s i t.buffer t.core) (slice_get s.threads i)
direct p s (Drains i) = option_and_then (λ t. run_drain s i t.core t.buffer) (slice_get s.threads i)

-- it is the same function
abbrev pub DirectIsStep : Type 0 → Type 0
DirectIsStep F = (p : Program F) (s : State F) (a : Actor) → direct p s a ≡ step p s a
