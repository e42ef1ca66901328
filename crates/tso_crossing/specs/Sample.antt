-- A program with a crossing: one thread makes one call, which reads a place of its own and is refused.
use Rattle.std.specs.Prelude.{ℕ, zero, suc, ◌&&◌, Bool, true, false, List, [], ◌∷◌, Option, Some, None, IsTrue}
use Rattle.tso_model.specs.Certificate.{IsGood}
use Rattle.tso_model.specs.Labels.{Label, Machine, Run, first_machine}
use Rattle.tso_model.specs.Objects.{Object, Queue, Strict}
use Rattle.tso_model.specs.Programs.{Action, Answer, CallKind, Done, Load, Pop, Program, Push, Refused, Ret, Value}
use Rattle.tso_model.specs.States.{Buffer, Called, CompactCore, CompactThread, Executing, Halted, Resting, State}
use Rattle.tso_model.specs.Table.{Table}
use Rattle.tso_crossing.specs.Crossings.{IsCrossing}
use Rattle.tso_crossing.specs.Moves.{Extent}

-- it reads place 0, and then is refused
abbrev pub sample_next : ℕ → Action ℕ
sample_next zero = Load 0 (λ w. 1)
sample_next (suc f) = Ret Refused

abbrev pub sample : Program ℕ
sample = record { next = sample_next; start = λ k. 0; calls = (Pop ∷ []) ∷ []; prologue = None }

abbrev pub sample_extent : Extent
sample_extent = record { most = 2; own = λ i q. true }

abbrev pub sample_table : Table ℕ
sample_table = record { reads = λ f q. true; writes = λ f q. false }

-- one word, 0
abbrev pub is_zero_word : List ℕ → Bool
is_zero_word (zero ∷ []) = true
is_zero_word _ = false

-- one thread, idle, with nothing buffered
abbrev pub is_idle : CompactCore ℕ → Buffer → Bool
is_idle Resting [] = true
is_idle _ _ = false

abbrev pub is_one_idle : List (CompactThread ℕ) → Bool
is_one_idle (t ∷ []) = is_idle t.core t.buffer
is_one_idle _ = false

-- a pop that saw nothing and was refused
abbrev pub is_refused : CallKind → List ℕ → Option Answer → Bool
is_refused Pop (zero ∷ []) (Some Refused) = true
is_refused _ _ _ = false

-- no call, or that one
abbrev pub is_history : List (List Called) → Bool
is_history ([] ∷ []) = true
is_history ((c ∷ []) ∷ []) = is_refused c.kind c.seen c.answer
is_history _ = false

abbrev pub sample_kept : State ℕ → Bool
sample_kept s = is_zero_word s.memory && (is_one_idle s.threads && is_history s.history)

-- the kept states are a crossing, so each run is good
abbrev pub SampleIsCrossed : Type 0
SampleIsCrossed = IsCrossing sample sample_extent (0 ∷ []) (λ k f. true) sample_table sample_table (Queue Strict 1) (λ s. IsTrue (sample_kept s))

abbrev pub SampleIsGood : Type 0
SampleIsGood = (ls : List Label) (m : Machine ℕ) → Run sample (first_machine sample (0 ∷ [])) ls m → IsGood (Queue Strict 1) ls
