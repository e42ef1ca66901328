-- Compact states of the x86-TSO machine: no locked instruction is under way, and the begun calls are kept with counts.
use Rattle.std.specs.Prelude.{ℕ, ◌+◌, ◌==◌, if◌then◌else◌, List, [], ◌∷◌, ◌++◌, map, length, Option, Some, None, slice_set, slice_index_or}
use Rattle.tso_model.specs.Programs.{CallKind, Answer, Program}

-- what a thread is doing: between calls, in a call with this frame, or stopped by a fault
pub data CompactCore (F : Type 0) : Type 0 where
  Resting : CompactCore F
  Executing : F → CompactCore F
  Halted : CompactCore F

-- a store buffer: the oldest entry first, each a place and a word
abbrev pub Buffer : Type 0
Buffer = List (ℕ × ℕ)

-- a thread: what it is doing, and its stores that are not in memory yet
pub record CompactThread (F : Type 0) : Type 0 where
  pub core : CompactCore F
  pub buffer : Buffer

-- a call that has begun; `seen` says how many calls of each thread had returned then
pub record Called : Type 0 where
  pub kind : CallKind
  pub seen : List ℕ
  pub answer : Option Answer

-- a state: the words of the memory, the threads, and for each thread the calls that have begun, in order
pub record State (F : Type 0) : Type 0 where
  pub memory : List ℕ
  pub threads : List (CompactThread F)
  pub history : List (List Called)

-- the word for the place after these stores, over the word
abbrev pub latest : Buffer → ℕ → ℕ → ℕ
latest [] place word = word
latest (e ∷ rest) place word = latest rest place (if e.0 == place then e.1 else word)

-- what a load reads: the newest own entry for the place, else the memory's word
abbrev pub word_seen : Buffer → List ℕ → ℕ → ℕ
word_seen buffer memory place = latest buffer place (slice_index_or memory place 0)

-- the calls of thread i that have begun
abbrev pub calls_in : List (List Called) → ℕ → List Called
calls_in h i = slice_index_or h i []

-- how many they are
abbrev pub begun_by : {F : Type 0} → State F → ℕ → ℕ
begun_by s i = length (calls_in s.history i)

-- 1 for a call that has returned
abbrev pub count_answer : Option Answer → ℕ
count_answer None = 0
count_answer (Some a) = 1

-- how many of these calls have returned
abbrev pub returned : List Called → ℕ
returned [] = 0
returned (c ∷ cs) = count_answer c.answer + returned cs

-- the last call gets the answer
abbrev pub answered : Answer → List Called → List Called
answered a [] = []
answered a (c ∷ []) = record { kind = c.kind; seen = c.seen; answer = Some a } ∷ []
answered a (c ∷ d ∷ cs) = c ∷ answered a (d ∷ cs)

-- a call that begins now: it sees how many calls of each thread have returned
abbrev pub begun_call : CallKind → List (List Called) → Called
begun_call k h = record { kind = k; seen = map returned h; answer = None }

-- what a step writes into the history: nothing, that a call begins, or that the last call is answered
pub data Log : Type 0 where
  Same : Log
  Began : CallKind → Log
  Answered : Answer → Log

-- the history after thread i has written this
abbrev pub logged : List (List Called) → ℕ → Log → List (List Called)
logged h i Same = h
logged h i (Began k) = slice_set h i (calls_in h i ++ begun_call k h ∷ [])
logged h i (Answered a) = slice_set h i (answered a (calls_in h i))

-- no call has begun
abbrev pub first_history : {F : Type 0} → Program F → List (List Called)
first_history p = map (λ ks. []) p.calls

-- nothing has begun and nothing is buffered
abbrev pub first_state : {F : Type 0} → Program F → List ℕ → State F
first_state p memory = record { memory = memory; threads = map (λ ks. record { core = Resting; buffer = [] }) p.calls; history = first_history p }
