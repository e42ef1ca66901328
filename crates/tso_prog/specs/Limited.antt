-- What keeps a program within its limits while its lines are read.
use Rattle.std.specs.Prelude.{◌≡◌, ℕ, ◌+◌, ◌≤◌, Bool, true, false, ◌&&◌, ◌||◌, ◌==◌, nat_le, List, length, map, sum_by, IsTrue}
use Rattle.std.specs.List.{list_all}
use Rattle.tso_line.specs.declared.instruction.CallKind.{CallKind}
use Rattle.tso_line.specs.Proper.{is_in_range}
use Rattle.tso_prog.specs.declared.draft.Part.{Part}
use Rattle.tso_prog.specs.declared.draft.Part.TheVariants as parts
use Rattle.tso_prog.specs.declared.client.Array.{Array}
use Rattle.tso_prog.specs.Limits.{has_small_bound, has_array_below, is_short_name, are_words, are_distinct, is_prologue, is_thread}
use Rattle.tso_prog.specs.Contents.{StepOf, BodyOf, Content}
use Rattle.tso_prog.specs.Finish.{is_threads}

-- bounds are small, and labels stand before an instruction or behind the last
pub record IsProcedure (b : BodyOf) : Type 0 where
  pub small_bounds : IsTrue (list_all (λ s. has_small_bound s.instruction) b.steps)
  pub labels_within : IsTrue (list_all (λ l. nat_le l.at (length b.steps)) b.labels)

-- at most 16 arrays, with 256 words in all, which are counted
pub record AreArrays (arrays : List Array) (words : ℕ) : Type 0 where
  pub few_arrays : length arrays ≤ 16
  pub words_are : words ≡ sum_by (λ a. length a.words) arrays
  pub few_words : words ≤ 256

-- at most 256 instructions in both
pub record AreProcedures (one other : BodyOf) : Type 0 where
  pub few_instructions : length one.steps + length other.steps ≤ 256
  pub push : IsProcedure one
  pub pop : IsProcedure other

-- at most 4 threads, and 12 calls with those of the prologue, which are counted
pub record AreCalls (prologue : List CallKind) (threads : List (List CallKind)) (calls : ℕ) : Type 0 where
  pub few_threads : length threads ≤ 4
  pub calls_are : calls ≡ length prologue + sum_by (λ calls. length calls) threads
  pub few_calls : calls ≤ 12

-- the counts are what they count, and no limit is passed
pub record IsLimited (c : Content) : Type 0 where
  pub arrays : AreArrays c.arrays c.words
  pub procedures : AreProcedures c.push c.pop
  pub calls : AreCalls c.prologue c.threads c.calls
  pub prologue_is_late : IsTrue (is_threads c.part || length c.prologue == 0)

abbrev pub is_first : Part → Bool
is_first parts.Capacity = true
is_first _ = false

abbrev pub is_array : Array → Bool
is_array a = is_short_name a.name && are_words a.words

abbrev pub is_step : ℕ → StepOf → Bool
is_step count s = is_in_range s.instruction && has_array_below count s.instruction

-- a procedure that was ended has an instruction
abbrev pub Begun : Part → ℕ → ℕ → Type 0
Begun parts.Capacity push pop = Unit {0}
Begun parts.Mode push pop = Unit {0}
Begun parts.Arrays push pop = Unit {0}
Begun parts.Push push pop = Unit {0}
Begun parts.Between push pop = 1 ≤ push
Begun parts.Pop push pop = 1 ≤ push
Begun parts.Prologue push pop = (1 ≤ push) × (1 ≤ pop)
Begun parts.Threads push pop = (1 ≤ push) × (1 ≤ pop)

-- what lets the program be written as a text again
pub record IsPrintable (c : Content) : Type 0 where
  pub capacity : IsTrue (is_first c.part || nat_le 1 c.capacity && nat_le c.capacity 16)
  pub arrays : IsTrue (list_all is_array c.arrays)
  pub names : IsTrue (are_distinct (map (λ a. a.name) c.arrays))
  pub push : IsTrue (list_all (is_step (length c.arrays)) c.push.steps)
  pub pop : IsTrue (list_all (is_step (length c.arrays)) c.pop.steps)
  pub begun : Begun c.part (length c.push.steps) (length c.pop.steps)
  pub prologue : IsTrue (is_prologue c.prologue)
  pub threads : IsTrue (list_all is_thread c.threads)
