-- The threads of a client's program, and their calls.
use Rattle.std.specs.Prelude.{◌≡◌, ℕ, ◌+◌, ◌↔◌, List, [], length, map, Some, None, slice_get}
use Rattle.tso_line.specs.declared.instruction.CallKind.{CallKind}
use Rattle.tso_prog.specs.Views.{call_view}
use Rattle.tso_prog.specs.declared.client.Client.{Client}
use Rattle.tso_machine.specs.Programs.{program_of}
use Rattle.tso_model.specs.Programs.{calls_of}

-- thread i is the last one, and its calls are the prologue's
pub record IsPrologue (c : Client) (i : ℕ) : Type 0 where
  pub last : length (program_of c).calls ≡ i + 1
  pub calls : calls_of (program_of c) i ≡ map call_view c.prologue

abbrev pub PrologueIsLast : Client → Type 0
PrologueIsLast c = (i : ℕ) → (program_of c).prologue ≡ Some i → IsPrologue c i

-- there is one exactly where the client has calls for it
abbrev pub NoPrologueIsEmpty : Client → Type 0
NoPrologueIsEmpty c = ((program_of c).prologue ≡ None) ↔ (c.prologue ≡ [])

-- each other thread has the calls of its list
abbrev pub ThreadsHaveTheirCalls : Client → Type 0
ThreadsHaveTheirCalls c = (i : ℕ) (calls : List CallKind) → slice_get c.threads i ≡ Some calls → calls_of (program_of c) i ≡ map call_view calls

-- without a prologue there are no more threads
abbrev pub ThreadsAreCounted : Client → Type 0
ThreadsAreCounted c = c.prologue ≡ [] → length (program_of c).calls ≡ length c.threads
