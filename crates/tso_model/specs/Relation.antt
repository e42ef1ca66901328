-- When a machine belongs to a compact state: it is its machine part, or one locked instruction is partway.
use Rattle.std.specs.Prelude.{◌≡◌, ℕ, List, [], ◌∷◌, length, slice_get, slice_set, slice_index}
use Rattle.std.specs.Prelude.{Some}
use Rattle.tso_model.specs.Labels.{Running, HasLock, HasRead, HasWritten, Machine, Stage, machine_of, thread_views}
use Rattle.tso_model.specs.Programs.{Locked, Program}
use Rattle.tso_model.specs.States.{Buffer, Called, Executing, State, CompactThread}

-- the last label of a locked instruction that was taken, but for its Unlock
pub data Part : Type 0 where
  TookLock : Part
  DidRead : Part
  DidWrite : Part
  DidDrain : Part

-- a locked instruction that has begun: its thread as the compact state has it, and how far it is
pub record Section (F : Type 0) : Type 0 where
  pub holder : ℕ
  pub thread : CompactThread F
  pub calls : List Called
  pub frame : F
  pub place : ℕ
  pub new : ℕ → ℕ
  pub after : ℕ → F
  pub part : Part

-- the holder's stage then, where it read this word
abbrev pub part_stage : Part → ℕ → Stage
part_stage TookLock old = HasLock
part_stage DidRead old = HasRead old
part_stage DidWrite old = HasWritten old
part_stage DidDrain old = HasWritten old

-- the holder's buffer then, where this word goes to place p
abbrev pub part_buffer : Part → ℕ → ℕ → Buffer
part_buffer TookLock p w = []
part_buffer DidRead p w = []
part_buffer DidWrite p w = (p, w) ∷ []
part_buffer DidDrain p w = []

-- the memory then
abbrev pub part_memory : Part → List ℕ → ℕ → ℕ → List ℕ
part_memory TookLock memory p w = memory
part_memory DidRead memory p w = memory
part_memory DidWrite memory p w = memory
part_memory DidDrain memory p w = slice_set memory p w

-- what the labels up to the part make of c's machine part
abbrev pub inside : {F : Type 0} → State F → Section F → Machine F
inside c s =
    record {
      memory = part_memory s.part c.memory s.place (s.new (slice_index c.memory s.place));
      lock = Some s.holder;
      threads = slice_set (thread_views c.history c.threads) s.holder (record {
        begun = length s.calls;
        core = Running s.frame (part_stage s.part (slice_index c.memory s.place));
        buffer = part_buffer s.part s.place (s.new (slice_index c.memory s.place));
      });
    }

-- there are as many histories as threads
abbrev pub IsShaped : {F : Type 0} → State F → Type 0
IsShaped c = length c.history ≡ length c.threads

-- the section is that of the holder's next instruction, and its buffer is empty
pub record IsOpen {F : Type 0} (P : Program F) (c : State F) (s : Section F) : Type 0 where
  pub shaped : IsShaped c
  pub begun : slice_get c.history s.holder ≡ Some s.calls
  pub at : slice_get c.threads s.holder ≡ Some s.thread
  pub running : s.thread.core ≡ Executing s.frame
  pub empty : s.thread.buffer ≡ []
  pub locked : P.next s.frame ≡ Locked s.place s.new s.after

-- the lock is free, or a locked instruction is open
pub data Phase (F : Type 0) : Type 0 where
  Free : Phase F
  Open : Section F → Phase F

-- the machine then
abbrev pub in_phase : {F : Type 0} → State F → Phase F → Machine F
in_phase c Free = machine_of c
in_phase c (Open s) = inside c s

-- the phase is one of the state
abbrev pub Fits : {F : Type 0} → Program F → State F → Phase F → Type 0
Fits P c Free = IsShaped c
Fits P c (Open s) = IsOpen P c s

-- the lock is free and m is c's machine part, or a locked instruction of c is under way and m is what its labels so far make of it
abbrev pub Belongs : {F : Type 0} → Program F → Machine F → State F → Type 0
Belongs {F} P m c = (phase : Phase F) × Fits P c phase × (m ≡ in_phase c phase)
