-- Litmus tests of x86-TSO: what two threads may see. Store buffering is the example of Sewell, Sarkar, Owens, Zappa Nardelli,
-- Myreen, CACM 53(7), 2010, section 2.
use Rattle.std.specs.Prelude.{◌≡◌, ℕ, ◌+◌, List, [], ◌∷◌, None}
use Rattle.tso_model.specs.Events.{CallOf, IsBefore, ReturnOf, events_of}
use Rattle.tso_model.specs.Labels.{By, Call, Drain, Fence, Label, Lock, Machine, Read, Return, Run, Unlock, Write, first_machine}
use Rattle.tso_model.specs.Programs.{Action, Barrier, CallKind, Done, Load, Locked, Pop, Program, Push, Ret, Store, Value}

-- x is place 0 and y is place 1, both 0 at first; where a thread is, and the word that it has loaded
pub data Place : Type 0 where
  StoresX LoadsX StoresY LoadsY FencesX FencesY AddsX IsDone : Place
  Loaded : ℕ → Place

-- a push is thread 0's call, and a pop thread 1's
abbrev pub two_calls : List (List CallKind)
two_calls = (Push 7 ∷ []) ∷ (Pop ∷ []) ∷ []

-- STORE BUFFERING: x := 1; load y, beside y := 1; load x

abbrev pub buffering_next : Place → Action Place
buffering_next StoresX = Store 0 1 LoadsY
buffering_next LoadsY = Load 1 (λ w. Loaded w)
buffering_next StoresY = Store 1 1 LoadsX
buffering_next LoadsX = Load 0 (λ w. Loaded w)
buffering_next (Loaded w) = Ret (Value w)
buffering_next _ = Ret Done

abbrev pub both_start : CallKind → Place
both_start (Push v) = StoresX
both_start Pop = StoresY

abbrev pub buffering : Program Place
buffering = record { next = buffering_next; start = both_start; calls = two_calls; prologue = None }

-- both stores stay in their buffers until both loads are done
abbrev pub both_zero : List Label
both_zero =
    By 0 (Call (Push 7)) ∷ By 0 (Write 0 1) ∷ By 1 (Call Pop) ∷ By 1 (Write 1 1) ∷ By 0 (Read 1 0) ∷ By 1 (Read 0 0) ∷ By 0 (Return (Value 0)) ∷ By 1 (Return (Value 0))
    ∷ By 0 (Drain 0 1) ∷ By 1 (Drain 1 1) ∷ []

-- both threads may read 0
abbrev pub BothReadZero : Type 0
BothReadZero = (m : Machine Place) × Run buffering (first_machine buffering (0 ∷ 0 ∷ [])) both_zero m

-- A FENCE WAITS: x := 1; fence; load y, beside y := 1; fence; load x

abbrev pub fencing_next : Place → Action Place
fencing_next StoresX = Store 0 1 FencesX
fencing_next FencesX = Barrier LoadsY
fencing_next LoadsY = Load 1 (λ w. Loaded w)
fencing_next StoresY = Store 1 1 FencesY
fencing_next FencesY = Barrier LoadsX
fencing_next LoadsX = Load 0 (λ w. Loaded w)
fencing_next (Loaded w) = Ret (Value w)
fencing_next _ = Ret Done

abbrev pub fencing : Program Place
fencing = record { next = fencing_next; start = both_start; calls = two_calls; prologue = None }

-- the fence is no step before the drain, and one after it
pub record FencesWaitHere : Type 0 where
  pub early : (m : Machine Place) → Run fencing (first_machine fencing (0 ∷ 0 ∷ [])) (By 0 (Call (Push 7)) ∷ By 0 (Write 0 1) ∷ By 0 Fence ∷ []) m → ⊥
  pub machine : Machine Place
  pub late : Run fencing (first_machine fencing (0 ∷ 0 ∷ [])) (By 0 (Call (Push 7)) ∷ By 0 (Write 0 1) ∷ By 0 (Drain 0 1) ∷ By 0 Fence ∷ []) machine

-- A CALL RETURNS BEFORE ITS STORE DRAINS: x := 1, and then, in a later call of another thread, load x

abbrev pub publishing_next : Place → Action Place
publishing_next StoresX = Store 0 1 IsDone
publishing_next IsDone = Ret Done
publishing_next LoadsX = Load 0 (λ w. Loaded w)
publishing_next (Loaded w) = Ret (Value w)
publishing_next _ = Ret Done

abbrev pub publishing_start : CallKind → Place
publishing_start (Push v) = StoresX
publishing_start Pop = LoadsX

abbrev pub publishing : Program Place
publishing = record { next = publishing_next; start = publishing_start; calls = two_calls; prologue = None }

abbrev pub late_drain : List Label
late_drain = By 0 (Call (Push 7)) ∷ By 0 (Write 0 1) ∷ By 0 (Return Done) ∷ By 1 (Call Pop) ∷ By 1 (Read 0 0) ∷ By 1 (Return (Value 0)) ∷ By 0 (Drain 0 1) ∷ []

-- the push is before the pop, which still reads the old word
pub record ReturnsAreNoDrains : Type 0 where
  pub machine : Machine Place
  pub run : Run publishing (first_machine publishing (0 ∷ [])) late_drain machine
  pub history : events_of late_drain ≡ CallOf 0 (Push 7) ∷ ReturnOf 0 Done ∷ CallOf 1 Pop ∷ ReturnOf 1 (Value 0) ∷ []
  pub before : IsBefore (events_of late_drain) 0 0 1 0

-- A LOCKED INSTRUCTION IS ATOMIC: x := x + 1 locked, beside load x

abbrev pub locking_next : Place → Action Place
locking_next AddsX = Locked 0 (λ w. w + 1) (λ w. Loaded w)
locking_next LoadsX = Load 0 (λ w. Loaded w)
locking_next (Loaded w) = Ret (Value w)
locking_next _ = Ret Done

abbrev pub locking_start : CallKind → Place
locking_start (Push v) = AddsX
locking_start Pop = LoadsX

abbrev pub locking : Program Place
locking = record { next = locking_next; start = locking_start; calls = two_calls; prologue = None }

-- no other thread reads between Lock and Unlock; after it, one reads the new word
pub record LocksHoldHere : Type 0 where
  pub inside : (m : Machine Place) (w : ℕ) → Run locking (first_machine locking (0 ∷ [])) (By 0 (Call (Push 7)) ∷ By 1 (Call Pop) ∷ By 0 Lock ∷ By 1 (Read 0 w) ∷ []) m → ⊥
  pub machine : Machine Place
  pub after : Run locking (first_machine locking (0 ∷ []))
      (By 0 (Call (Push 7)) ∷ By 1 (Call Pop) ∷ By 0 Lock ∷ By 0 (Read 0 0) ∷ By 0 (Write 0 1) ∷ By 0 (Drain 0 1) ∷ By 0 Unlock ∷ By 1 (Read 0 1) ∷ []) machine
