-- The eight kept states, each with the one actor that is chosen there, and the step that it takes.
use Rattle.std.proofs.Common.{◌≡◌, ℕ, List, [], ◌∷◌, Some, None, refl}
use Rattle.tso_model.specs.Programs.{Push, Pop, Refused, Done}
use Rattle.tso_model.specs.States.{Resting, Executing, CompactThread, Called, State}
use Rattle.tso_model.specs.Steps.{Actor, Exec, Drains, step, move}
use Rattle.tso_client.specs.Small.{Frame, Stores, AfterStore, Loads, AfterLoad, small}

abbrev pub rest : CompactThread Frame
rest = record { core = Resting; buffer = [] }

abbrev pub running : Frame → List (ℕ × ℕ) → CompactThread Frame
running f b = record { core = Executing f; buffer = b }

abbrev pub push : Called
push = record { kind = Push 7; seen = 0 ∷ 0 ∷ []; answer = None }

abbrev pub pushed : Called
pushed = record { kind = Push 7; seen = 0 ∷ 0 ∷ []; answer = Some Done }

abbrev pub pop : Called
pop = record { kind = Pop; seen = 0 ∷ 1 ∷ []; answer = None }

abbrev pub popped : Called
popped = record { kind = Pop; seen = 0 ∷ 1 ∷ []; answer = Some Refused }

abbrev pub s0 : State Frame
s0 = record { memory = 0 ∷ []; threads = rest ∷ rest ∷ []; history = [] ∷ [] ∷ [] }

abbrev pub s1 : State Frame
s1 = record { memory = 0 ∷ []; threads = rest ∷ running Stores [] ∷ []; history = [] ∷ (push ∷ []) ∷ [] }

abbrev pub s2 : State Frame
s2 = record { memory = 0 ∷ []; threads = rest ∷ running AfterStore ((0, 5) ∷ []) ∷ []; history = [] ∷ (push ∷ []) ∷ [] }

abbrev pub s3 : State Frame
s3 = record { memory = 0 ∷ []; threads = rest ∷ record { core = Resting; buffer = (0, 5) ∷ [] } ∷ []; history = [] ∷ (pushed ∷ []) ∷ [] }

abbrev pub s4 : State Frame
s4 = record { memory = 5 ∷ []; threads = rest ∷ rest ∷ []; history = [] ∷ (pushed ∷ []) ∷ [] }

abbrev pub s5 : State Frame
s5 = record { memory = 5 ∷ []; threads = running Loads [] ∷ rest ∷ []; history = (pop ∷ []) ∷ (pushed ∷ []) ∷ [] }

abbrev pub s6 : State Frame
s6 = record { memory = 5 ∷ []; threads = running AfterLoad [] ∷ rest ∷ []; history = (pop ∷ []) ∷ (pushed ∷ []) ∷ [] }

abbrev pub s7 : State Frame
s7 = record { memory = 5 ∷ []; threads = rest ∷ rest ∷ []; history = (popped ∷ []) ∷ (pushed ∷ []) ∷ [] }

-- thread i's actor a leads from s to t, and the other thread j, of two, can't move
pub record Goes (s : State Frame) (a : Actor) (j : ℕ) (t : State Frame) : Type 0 where
  pub goes : step small s a ≡ Some t
  pub exec : move small s (Exec j) ≡ None
  pub drain : move small s (Drains j) ≡ None

pub go0 : Goes s0 (Exec 1) 0 s1
go0 = record { goes = refl; exec = refl; drain = refl }

pub go1 : Goes s1 (Exec 1) 0 s2
go1 = record { goes = refl; exec = refl; drain = refl }

pub go2 : Goes s2 (Exec 1) 0 s3
go2 = record { goes = refl; exec = refl; drain = refl }

pub go3 : Goes s3 (Drains 1) 0 s4
go3 = record { goes = refl; exec = refl; drain = refl }

pub go4 : Goes s4 (Exec 0) 1 s5
go4 = record { goes = refl; exec = refl; drain = refl }

pub go5 : Goes s5 (Exec 0) 1 s6
go5 = record { goes = refl; exec = refl; drain = refl }

pub go6 : Goes s6 (Exec 0) 1 s7
go6 = record { goes = refl; exec = refl; drain = refl }
