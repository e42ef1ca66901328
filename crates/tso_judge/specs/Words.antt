-- States whose words have 64 bits.
use Rattle.std.specs.Prelude.{◌≡◌, ℕ, List, length, Option, Some, None, slice_get}
use Rattle.tso_code.specs.Numbers.{IsWord}
use Rattle.tso_compact.specs.Laws.{initial_of}
use Rattle.tso_machine.specs.Activations.{Activation}
use Rattle.tso_machine.specs.Programs.{program_of}
use Rattle.tso_model.specs.Programs.{Answer, CallKind, Done, Pop, Push, Refused, Value}
use Rattle.tso_model.specs.Reduce.{Steps}
use Rattle.tso_model.specs.States.{Buffer, Called, CompactCore, CompactThread, Executing, Halted, Resting, State, calls_in}
use Rattle.tso_model.specs.Steps.{Actor, step}
use Rattle.tso_prog.specs.declared.client.Client.{Client}

abbrev pub AreWords : List ℕ → Type 0
AreWords xs = (n w : ℕ) → slice_get xs n ≡ Some w → IsWord w

-- fifteen words
pub record AreRegisters (xs : List ℕ) : Type 0 where
  pub count : length xs ≡ 15
  pub words : AreWords xs

-- the registers of a running call
abbrev pub CoreHasWords : CompactCore Activation → Type 0
CoreHasWords Resting = Unit {0}
CoreHasWords (Executing a) = AreRegisters a.frame.registers
CoreHasWords Halted = Unit {0}

abbrev pub BufferHasWords : Buffer → Type 0
BufferHasWords b = (n : ℕ) (e : ℕ × ℕ) → slice_get b n ≡ Some e → IsWord e.1

pub record ThreadHasWords (t : CompactThread Activation) : Type 0 where
  pub core : CoreHasWords t.core
  pub buffer : BufferHasWords t.buffer

-- the argument of a push
abbrev pub KindHasWord : CallKind → Type 0
KindHasWord (Push v) = IsWord v
KindHasWord Pop = Unit {0}

-- the value of a pop
abbrev pub AnswerHasWord : Answer → Type 0
AnswerHasWord Refused = Unit {0}
AnswerHasWord Done = Unit {0}
AnswerHasWord (Value w) = IsWord w

abbrev pub AnyAnswerHasWord : Option Answer → Type 0
AnyAnswerHasWord None = Unit {0}
AnyAnswerHasWord (Some a) = AnswerHasWord a

pub record CallHasWords (c : Called) : Type 0 where
  pub kind : KindHasWord c.kind
  pub answer : AnyAnswerHasWord c.answer

abbrev pub CallsHaveWords : List Called → Type 0
CallsHaveWords calls = (k : ℕ) (c : Called) → slice_get calls k ≡ Some c → CallHasWords c

-- each word of memory, registers, store buffers, arguments and answers has 64 bits
pub record HasWords (s : State Activation) : Type 0 where
  pub memory : AreWords s.memory
  pub threads : (i : ℕ) (t : CompactThread Activation) → slice_get s.threads i ≡ Some t → ThreadHasWords t
  pub history : (i : ℕ) → CallsHaveWords (calls_in s.history i)

-- and so it is in each state that steps reach
abbrev pub WordsStay : Client → Type 0
WordsStay c = (actors : List Actor) (s : State Activation) → Steps (step (program_of c)) (initial_of c) actors s → HasWords s
