-- Two small programs of a push that stores and a pop that loads, and that all their runs are good.
use Rattle.std.specs.Prelude.{ℕ, List, [], ◌∷◌, Option, Some, None}
use Rattle.tso_model.specs.Certificate.{IsGood}
use Rattle.tso_model.specs.Labels.{Label, Machine, Run, first_machine}
use Rattle.tso_model.specs.Objects.{Queue, Weak}
use Rattle.tso_model.specs.Programs.{CallKind, Push, Pop, Refused, Done, Action, Load, Store, Ret, Program}

-- where a running thread is
pub data Frame : Type 0 where
  Stores AfterStore Loads AfterLoad : Frame

-- a push stores 5 to place 0 and is done, a pop loads a place and is refused
abbrev pub next : ℕ → Frame → Action Frame
next place Stores = Store 0 5 AfterStore
next place AfterStore = Ret Done
next place Loads = Load place (λ w. AfterLoad)
next place AfterLoad = Ret Refused

-- where a call starts
abbrev pub start : CallKind → Frame
start (Push v) = Stores
start Pop = Loads

-- with a pop that loads this place
abbrev pub program : ℕ → List (List CallKind) → Option ℕ → Program Frame
program place calls prologue = record { next = next place; start = start; calls = calls; prologue = prologue }

-- thread 1's push comes first, as a prologue; then thread 0's pop, which loads what was stored
abbrev pub small : Program Frame
small = program 0 ((Pop ∷ []) ∷ (Push 7 ∷ []) ∷ []) (Some 1)

-- thread 0's push beside thread 1's pop, which loads another place
abbrev pub pair : Program Frame
pair = program 1 ((Push 7 ∷ []) ∷ (Pop ∷ []) ∷ []) None

-- every run of the first is good
abbrev pub EverySmallRunIsGood : Type 0
EverySmallRunIsGood = (ls : List Label) (m : Machine Frame) → Run small (first_machine small (0 ∷ [])) ls m → IsGood (Queue Weak 1) ls

-- every run of the second is
abbrev pub EveryPairRunIsGood : Type 0
EveryPairRunIsGood = (ls : List Label) (m : Machine Frame) → Run pair (first_machine pair (0 ∷ 0 ∷ [])) ls m → IsGood (Queue Weak 1) ls
