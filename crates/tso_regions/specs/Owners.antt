-- Which of several owners a state belongs to: it is told by the calls that have begun, and what each has seen.
use Rattle.std.specs.Prelude.{ℕ, ◌+◌, ◌*◌, ◌%◌, List, fold}
use Rattle.tso_hist.specs.declared.call.Call.{Call}
use Rattle.tso_line.specs.declared.instruction.CallKind.{CallKind}
use Rattle.tso_line.specs.declared.instruction.CallKind.TheVariants as kinds
use Rattle.tso_state.specs.declared.state.State.{State}

-- a residue with another word
abbrev pub with_word : ℕ → ℕ → ℕ
with_word r w = (r % 4294967296 * 4099 + w % 16777216 + 1) % 4294967296

abbrev pub word_of_kind : CallKind → ℕ
word_of_kind (kinds.Push v) = v
word_of_kind kinds.Pop = 1

-- with what a call is, and with what it has seen
abbrev pub with_call : ℕ → Call → ℕ
with_call r call = fold with_word (with_word r (word_of_kind call.kind)) call.seen

-- with the calls of one more thread; where no call has begun it is 0
abbrev pub with_calls : ℕ → List Call → ℕ
with_calls r calls = fold with_call (r % 4294967296 * 13) calls

abbrev pub residue_of : List (List Call) → ℕ
residue_of history = fold with_calls 0 history

-- the owner of a state with this history, of so many
abbrev pub owner_of : ℕ → List (List Call) → ℕ
owner_of count history = residue_of history % 1000003 % count

abbrev pub owner_in : ℕ → State → ℕ
owner_in count s = owner_of count s.history
