-- The parts of a state: its memory, each thread, each thread's list of calls. A record keeps those that differ from the record
-- before it, and all of them where it is the first, or where the counts of threads or of lists differ.
use Rattle.std.specs.Prelude.{◌≡◌, refl, ℕ, zero, suc, ◌+◌, Bool, List, [], ◌∷◌, length, Option, Some, None, ◌==◌, ◌&&◌, if◌then◌else◌}
use Rattle.std.specs.Cmp.Lexicographic.{pointwise}
use Rattle.std.specs.List.{AllZip}
use Rattle.tso_hist.specs.contracts.call.CallPartialEq.TheImpl as calls
use Rattle.tso_hist.specs.declared.call.Call.{Call}
use Rattle.tso_state.specs.contracts.state.ThreadPartialEq.TheImpl as threads
use Rattle.tso_state.specs.declared.state.State.{State}
use Rattle.tso_state.specs.declared.state.Thread.{Thread}
use Rattle.tso_rec.specs.declared.record.Record.{Record}

-- how many items differ, by this test of two items, from those at the same places
abbrev pub differing : {X : Type 0} → (X → X → Bool) → List X → List X → ℕ
differing same [] ys = 0
differing same (x ∷ xs) [] = 0
differing same (x ∷ xs) (y ∷ ys) = (if same x y then 0 else 1) + differing same xs ys

abbrev pub same_memory : List ℕ → List ℕ → Bool
same_memory = pointwise ◌==◌

-- `==` of threads
abbrev pub same_thread : Thread → Thread → Bool
same_thread = threads.eq-value.it

-- `==` of lists of calls
abbrev pub same_calls : List Call → List Call → Bool
same_calls = pointwise calls.eq-value.it

abbrev pub part_count : State → ℕ
part_count s = 1 + length s.threads + length s.history

abbrev pub has_same_counts : State → State → Bool
has_same_counts before s = (length before.threads == length s.threads) && (length before.history == length s.history)

abbrev pub differing_parts : State → State → ℕ
differing_parts before s = (if same_memory before.memory s.memory then 0 else 1) + differing same_thread before.threads s.threads + differing same_calls before.history s.history

abbrev pub kept_after : State → State → ℕ
kept_after before s = if has_same_counts before s then differing_parts before s else part_count s

abbrev pub kept_by : Option State → State → ℕ
kept_by None s = part_count s
kept_by (Some before) s = kept_after before s

abbrev pub kept_from : Option State → List Record → ℕ → Option ℕ
kept_from before [] k = None
kept_from before (r ∷ rest) zero = Some (kept_by before r.state)
kept_from before (r ∷ rest) (suc k) = kept_from (Some r.state) rest k

-- how many parts record k keeps
abbrev pub parts_kept : List Record → ℕ → Option ℕ
parts_kept records k = kept_from None records k

-- a copy is its source
abbrev pub CopiesAre : {X : Type 0} → (X → X → Type 0) → Type 0
CopiesAre {X} IsCopy = (x y : X) → IsCopy x y → y ≡ x

pub zipped : {X : Type 0} {IsCopy : X → X → Type 0} → CopiesAre IsCopy → CopiesAre (AllZip IsCopy)
zipped copies [] [] c = refl
zipped copies [] (y ∷ ys) c = absurd c
zipped copies (x ∷ xs) [] c = absurd c
zipped copies (x ∷ xs) (y ∷ ys) (first, others) = λ i. copies x y first i ∷ zipped copies xs ys others i
