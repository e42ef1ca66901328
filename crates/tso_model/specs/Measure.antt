-- Which frames can occur, and how many labels are left at most.
use Rattle.std.specs.Prelude.{◌≡◌, ℕ, ◌+◌, ◌-◌, ◌*◌, ◌<◌, Bool, true, List, [], ◌∷◌, length, drop, slice_get, Some}
use Rattle.tso_model.specs.Labels.{Running, Idle, Stopped, HasLock, HasRead, HasWritten, Core, Thread, Machine, Outside, Stage}
use Rattle.tso_model.specs.Programs.{Answer, Barrier, CallKind, Fail, FaultKind, IsAnswerOf, Load, Locked, Program, Ret, Silent, Store, calls_of}

-- `sound` tells the frames that can occur in a call of each kind: each of the program's calls starts with one, and from such
-- a frame each instruction leads to such frames of lower rank, and stores, locked or not, inside a memory of this size. One that ends its
-- call has a rank above 0, and returns an answer of the call's kind.
pub record IsRanked {F : Type 0} (P : Program F) (size : ℕ) (sound : CallKind → F → Bool) (rank : F → ℕ) : Type 0 where
  pub starts : (i n : ℕ) (c : CallKind) → slice_get (calls_of P i) n ≡ Some c → sound c (P.start c) ≡ true
  pub silent : (c : CallKind) (f g : F) → sound c f ≡ true → P.next f ≡ Silent g → (sound c g ≡ true) × (rank g < rank f)
  pub load : (c : CallKind) (f : F) (p : ℕ) (k : ℕ → F) (v : ℕ) → sound c f ≡ true → P.next f ≡ Load p k → (sound c (k v) ≡ true) × (rank (k v) < rank f)
  pub store : (c : CallKind) (f : F) (p v : ℕ) (g : F) → sound c f ≡ true → P.next f ≡ Store p v g → (sound c g ≡ true) × (rank g < rank f) × (p < size)
  pub barrier : (c : CallKind) (f g : F) → sound c f ≡ true → P.next f ≡ Barrier g → (sound c g ≡ true) × (rank g < rank f)
  pub locked : (c : CallKind) (f : F) (p : ℕ) (n : ℕ → ℕ) (k : ℕ → F) (v : ℕ) → sound c f ≡ true → P.next f ≡ Locked p n k → (sound c (k v) ≡ true) × (rank (k v) < rank f) × (p < size)
  pub ret : (c : CallKind) (f : F) (a : Answer) → sound c f ≡ true → P.next f ≡ Ret a → IsAnswerOf c a × (0 < rank f)
  pub fail : (c : CallKind) (f : F) (n : FaultKind) → sound c f ≡ true → P.next f ≡ Fail n → 0 < rank f

-- the frame can occur in some call
abbrev pub IsSound : {F : Type 0} → (CallKind → F → Bool) → F → Type 0
IsSound sound f = (c : CallKind) × (sound c f ≡ true)

-- each running thread's frame can
abbrev pub AllSound : {F : Type 0} → (CallKind → F → Bool) → Machine F → Type 0
AllSound {F} sound m = (i : ℕ) (t : Thread F) (f : F) (st : Stage) → slice_get m.threads i ≡ Some t → t.core ≡ Running f st → IsSound sound f

-- how many of the five labels of a locked instruction are taken, the Drain with the Write
abbrev pub stage_count : Stage → ℕ
stage_count Outside = 0
stage_count HasLock = 1
stage_count (HasRead v) = 2
stage_count (HasWritten v) = 4

-- the labels that the core's call may still take
abbrev pub core_cost : {F : Type 0} → (F → ℕ) → Core F → ℕ
core_cost rank Idle = 0
core_cost rank (Running f st) = 5 * rank f - stage_count st
core_cost rank Stopped = 0

-- the labels of these calls: five for each rank of the first frame, and one for the call
abbrev pub calls_cost : {F : Type 0} → Program F → (F → ℕ) → List CallKind → ℕ
calls_cost P rank [] = 0
calls_cost P rank (k ∷ ks) = (5 * rank (P.start k) + 1) + calls_cost P rank ks

-- those of a thread: its calls to come, its call, its buffered stores
abbrev pub thread_cost : {F : Type 0} → Program F → (F → ℕ) → List CallKind → Thread F → ℕ
thread_cost P rank ks t = calls_cost P rank (drop t.begun ks) + core_cost rank t.core + length t.buffer

-- and of all threads
abbrev pub threads_cost : {F : Type 0} → Program F → (F → ℕ) → List (List CallKind) → List (Thread F) → ℕ
threads_cost P rank kss [] = 0
threads_cost P rank [] (t ∷ ts) = thread_cost P rank [] t + threads_cost P rank [] ts
threads_cost P rank (ks ∷ kss) (t ∷ ts) = thread_cost P rank ks t + threads_cost P rank kss ts

-- no run from m has more labels
abbrev pub labels_left : {F : Type 0} → Program F → (F → ℕ) → Machine F → ℕ
labels_left P rank m = threads_cost P rank P.calls m.threads

-- five labels for each instruction that a call may still execute, and one for the call
abbrev pub step_limit : {F : Type 0} → Program F → (F → ℕ) → List (List CallKind) → ℕ
step_limit P rank [] = 0
step_limit P rank (ks ∷ kss) = calls_cost P rank ks + step_limit P rank kss
