-- Which calls threads are in, and how many they have begun, by the numbers of histories. Nothing here need be believed: it serves the code.
use Rattle.std.specs.Prelude.{◌≡◌, ℕ, List, [], ◌∷◌, Some, length, min, slice_get, slice_index_or}
use Rattle.tso_flow.specs.declared.location.ProcedureKind.{ProcedureKind}
use Rattle.tso_hist.specs.declared.call.Call.{Call}
use Rattle.tso_state.specs.Views.{running_procedure}
use Rattle.tso_keys.specs.declared.running.Running.{Running}

-- the procedure that the last call of this thread runs
abbrev pub procedure_in : List (List Call) → ℕ → ProcedureKind
procedure_in h thread = running_procedure (slice_index_or h thread [])

-- those of as many threads as a kept state has at most
abbrev pub procedures_in : List (List Call) → List ProcedureKind
procedures_in h = procedure_in h 0 ∷ procedure_in h 1 ∷ procedure_in h 2 ∷ procedure_in h 3 ∷ procedure_in h 4 ∷ []

-- how many calls of this thread have begun, as far as a byte counts
abbrev pub count_in : List (List Call) → ℕ → ℕ
count_in h thread = min (length (slice_index_or h thread [])) 255

abbrev pub counts_in : List (List Call) → List ℕ
counts_in h = count_in h 0 ∷ count_in h 1 ∷ count_in h 2 ∷ count_in h 3 ∷ count_in h 4 ∷ []

-- this is what runs by a history
pub record IsRunningOf (h : List (List Call)) (r : Running) : Type 0 where
  pub procedures : r.procedures ≡ procedures_in h
  pub begun : r.begun ≡ counts_in h

-- what is remembered at number n, if anything is, runs by this history
abbrev pub IsRemembered : List (List Call) → List Running → ℕ → Type 0
IsRemembered h rs n = (r : Running) → slice_get rs n ≡ Some r → IsRunningOf h r

-- this is what runs by history number n
pub record IsRunningBy (hs : List (List (List Call))) (n : ℕ) (r : Running) : Type 0 where
  pub history : List (List Call)
  pub at : slice_get hs n ≡ Some history
  pub is : IsRunningOf history r

-- of the first histories it is known
abbrev pub AreRunning : List (List (List Call)) → List Running → Type 0
AreRunning hs rs = (n : ℕ) (r : Running) → slice_get rs n ≡ Some r → IsRunningBy hs n r
