-- When a thread's next call may begin: the prologue's calls come first, and are drained before any other call begins.
use Rattle.std.specs.Prelude.{ℕ, ◌==◌, if◌then◌else◌, Bool, true, false, [], ◌∷◌, Option, Some, None, slice_get}
use Rattle.tso_model.specs.Programs.{CallKind, Program, calls_of}
use Rattle.tso_model.specs.States.{CompactCore, Resting, Executing, Halted, Buffer, CompactThread, State, begun_by}

-- idle, with no call left and nothing buffered
abbrev pub is_over : Bool → Option CallKind → Buffer → Bool
is_over false call buffer = false
is_over true (Some k) buffer = false
is_over true None (e ∷ rest) = false
is_over true None [] = true

-- the thread is between calls
abbrev pub is_resting : {F : Type 0} → CompactCore F → Bool
is_resting Resting = true
is_resting (Executing f) = false
is_resting Halted = false

-- thread i, of which so many calls have begun, is idle, with no call left and nothing buffered
abbrev pub is_thread_over : {F : Type 0} → Program F → ℕ → ℕ → Option (CompactThread F) → Bool
is_thread_over p i begun None = true
is_thread_over p i begun (Some t) = is_over (is_resting t.core) (slice_get (calls_of p i) begun) t.buffer

-- thread i's calls wait for those of the prologue's thread, if there is one and it is another
abbrev pub may_begin : Option ℕ → ℕ → (ℕ → Bool) → Bool
may_begin None i over = true
may_begin (Some j) i over = if i == j then true else over j

-- the call, if it may begin
abbrev pub call_if : Bool → Option CallKind → Option CallKind
call_if true call = call
call_if false call = None

-- the call that thread i may begin now, were it idle
abbrev pub next_call : {F : Type 0} → Program F → State F → ℕ → Option CallKind
next_call p s i = call_if (may_begin p.prologue i (λ j. is_thread_over p j (begun_by s j) (slice_get s.threads j))) (slice_get (calls_of p i) (begun_by s i))
