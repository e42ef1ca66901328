-- Why a prologue must have the same calls: two programs, of which one has a beginning of the other's prologue, and more runs.
use Rattle.std.specs.Prelude.{◌≡◌, ℕ, List, [], ◌∷◌, length, Some}
use Rattle.tso_model.specs.Objects.{Mode, Object, Queue}
use Rattle.tso_model.specs.Programs.{Action, BadAnswer, CallKind, Cut, Fail, Pop, Program, Push, calls_of}
use Rattle.tso_client.specs.Covering.{IsBeginning}
use Rattle.tso_client.specs.Goodness.{AllRunsAreGood}

-- a push faults at once, and a pop never goes on
abbrev pub next : CallKind → Action CallKind
next (Push v) = Fail BadAnswer
next Pop = Cut

abbrev pub with_calls : List (List CallKind) → Program CallKind
with_calls calls = record { next = next; start = λ k. k; calls = calls; prologue = Some 1 }

-- thread 0 pushes, once thread 1, which has no calls, is over
abbrev pub short : Program CallKind
short = with_calls ((Push 7 ∷ []) ∷ [] ∷ [])

-- thread 1 pops first, and never ends
abbrev pub long : Program CallKind
long = with_calls ((Push 7 ∷ []) ∷ (Pop ∷ []) ∷ [])

-- the two have the same code, the same threads and the same number for the prologue, and each thread of the one makes a beginning of the
-- other's calls; yet all runs of the other are good, and some run of the one is not
pub record ShorterProloguesDoNotServe : Type 0 where
  pub next : long.next ≡ short.next
  pub start : long.start ≡ short.start
  pub threads : length long.calls ≡ length short.calls
  pub prologue : long.prologue ≡ short.prologue
  pub calls : (i : ℕ) → IsBeginning (calls_of short i) (calls_of long i)
  pub good : (memory : List ℕ) (mode : Mode) (capacity : ℕ) → AllRunsAreGood long memory (Queue mode capacity)
  pub bad : (memory : List ℕ) (object : Object) → AllRunsAreGood short memory object → ⊥
