-- Compact steps: one instruction of a thread, a locked one whole, or one drain. A thread's step is seen from its own part
-- of the state, with at most one access to the memory and at most one entry in the history.
use Rattle.std.specs.Prelude.{ℕ, List, [], ◌∷◌, ◌++◌, Option, Some, None, slice_get, slice_set, slice_index_or}
use Rattle.std.specs.Option.{option_map, option_and_then}
use Rattle.tso_model.specs.Programs.{CallKind, Action, Silent, Load, Store, Barrier, Locked, Ret, Fail, Cut, Program}
use Rattle.tso_model.specs.States.{CompactCore, Resting, Executing, Halted, Buffer, CompactThread, State, latest, Log, Same, Began, Answered, logged}
use Rattle.tso_model.specs.Prologue.{next_call}

-- Exec i executes thread i's next instruction or begins its next call, Drains i writes the oldest entry of its buffer to memory
pub data Actor : Type 0 where
  Exec : ℕ → Actor
  Drains : ℕ → Actor

-- whose actor it is
abbrev pub thread_of : Actor → ℕ
thread_of (Exec i) = i
thread_of (Drains i) = i

-- a step's access to the memory: none, a read of a place, a write of a word, or a new word by the old one
pub data Access : Type 0 where
  Nothing : Access
  Read : ℕ → Access
  Write : ℕ → ℕ → Access
  Update : ℕ → (ℕ → ℕ) → Access

-- what a step does: its access, the thread after it by the word read, its entry in the history
pub record Move (F : Type 0) : Type 0 where
  pub access : Access
  pub after : ℕ → CompactThread F
  pub log : Log

-- only with an empty buffer
abbrev pub when_empty : {X : Type 0} → Buffer → X → Option X
when_empty [] x = Some x
when_empty (e ∷ rest) x = None

-- the move of the next instruction, with this buffer: a load reads memory's word, over which the own buffer goes
abbrev pub action_move : {F : Type 0} → Buffer → Action F → Option (Move F)
action_move b (Silent g) = Some (record { access = Nothing; after = λ w. record { core = Executing g; buffer = b }; log = Same })
action_move b (Load p k) = Some (record { access = Read p; after = λ w. record { core = Executing (k (latest b p w)); buffer = b }; log = Same })
action_move b (Store p v g) = Some (record { access = Nothing; after = λ w. record { core = Executing g; buffer = b ++ (p, v) ∷ [] }; log = Same })
action_move b (Barrier g) = when_empty b (record { access = Nothing; after = λ w. record { core = Executing g; buffer = b }; log = Same })
action_move b (Locked p new k) = when_empty b (record { access = Update p new; after = λ w. record { core = Executing (k w); buffer = b }; log = Same })
action_move b (Ret a) = Some (record { access = Nothing; after = λ w. record { core = Resting; buffer = b }; log = Answered a })
action_move b (Fail n) = Some (record { access = Nothing; after = λ w. record { core = Halted; buffer = b }; log = Same })
action_move b Cut = None

-- the call begins
abbrev pub call_move : {F : Type 0} → Program F → Buffer → Option CallKind → Option (Move F)
call_move p b None = None
call_move p b (Some k) = Some (record { access = Nothing; after = λ w. record { core = Executing (p.start k); buffer = b }; log = Began k })

-- `call` is the call that may begin now
abbrev pub core_move : {F : Type 0} → Program F → Option CallKind → CompactCore F → Buffer → Option (Move F)
core_move p call Resting b = call_move p b call
core_move p call Halted b = None
core_move p call (Executing f) b = action_move b (p.next f)

-- the oldest entry is written
abbrev pub drain_move : {F : Type 0} → CompactCore F → Buffer → Option (Move F)
drain_move c [] = None
drain_move c (e ∷ rest) = Some (record { access = Write e.0 e.1; after = λ w. record { core = c; buffer = rest }; log = Same })

-- the actor's move, if it has one
abbrev pub move : {F : Type 0} → Program F → State F → Actor → Option (Move F)
move p s (Exec i) = option_and_then (λ t. core_move p (next_call p s i) t.core t.buffer) (slice_get s.threads i)
move p s (Drains i) = option_and_then (λ t. drain_move t.core t.buffer) (slice_get s.threads i)

-- the word that an access reads
abbrev pub word_read : List ℕ → Access → ℕ
word_read m Nothing = 0
word_read m (Read p) = slice_index_or m p 0
word_read m (Write p v) = 0
word_read m (Update p f) = slice_index_or m p 0

-- the memory after an access
abbrev pub memory_after : List ℕ → Access → List ℕ
memory_after m Nothing = m
memory_after m (Read p) = m
memory_after m (Write p v) = slice_set m p v
memory_after m (Update p f) = slice_set m p (f (slice_index_or m p 0))

-- the state after thread i's move
abbrev pub perform : {F : Type 0} → State F → ℕ → Move F → State F
perform s i m = record {
  memory = memory_after s.memory m.access;
  threads = slice_set s.threads i (m.after (word_read s.memory m.access));
  history = logged s.history i m.log;
}

-- the state after the actor's step, if it has one
abbrev pub step : {F : Type 0} → Program F → State F → Actor → Option (State F)
step p s a = option_map (perform s (thread_of a)) (move p s a)
