-- The states of the x86-TSO machine, and its labels. After the abstract machine of Sewell, Sarkar, Owens, Zappa Nardelli,
-- Myreen, "x86-TSO: a rigorous and usable programmer's model for x86 multiprocessors", CACM 53(7), 2010: one memory, one
-- lock for the whole machine, and for each thread a first-in first-out store buffer.
use Rattle.std.specs.Prelude.{ℕ, List, Option}
use Rattle.tso_model.specs.Programs.{CallKind, Answer, FaultKind}
use Rattle.tso_model.specs.States.{Buffer}

-- how far a thread is in a locked instruction: in none, or the last of Lock, Read (of this word) and Write (over it) that it took
pub data Stage : Type 0 where
  Outside : Stage
  HasLock : Stage
  HasRead : ℕ → Stage
  HasWritten : ℕ → Stage

-- what a thread is doing: between calls, in a call with this frame, or stopped by a fault
pub data Core (F : Type 0) : Type 0 where
  Idle : Core F
  Running : F → Stage → Core F
  Stopped : Core F

-- a thread: how many of its calls have begun, its core, and its stores that are not in memory yet, oldest first
pub record Thread (F : Type 0) : Type 0 where
  pub begun : ℕ
  pub core : Core F
  pub buffer : Buffer

-- the words of the memory, the thread that holds the lock, if one does, and the threads
pub record Machine (F : Type 0) : Type 0 where
  pub memory : List ℕ
  pub lock : Option ℕ
  pub threads : List (Thread F)

-- what a thread does in one step, with the place and the word where it touches memory or buffer
pub data Kind : Type 0 where
  -- a call begins
  Call : CallKind → Kind
  -- an instruction that touches no memory
  Reg : Kind
  -- a word is read, from the own buffer or from memory
  Read : (place word : ℕ) → Kind
  -- a word is put into the own buffer
  Write : (place word : ℕ) → Kind
  -- the oldest buffered word goes to memory
  Drain : (place word : ℕ) → Kind
  -- a fence is passed
  Fence : Kind
  -- a locked instruction begins
  Lock : Kind
  -- and ends
  Unlock : Kind
  -- a call ends, with its answer
  Return : Answer → Kind
  -- the thread stops for good
  Fault : FaultKind → Kind

-- whose step it is, and what it does
pub data Label : Type 0 where
  By : (thread : ℕ) → Kind → Label
