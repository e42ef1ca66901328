-- What relates the label machine and compact states: the counted history that a run's labels make, and a compact state's machine.
use Rattle.std.specs.Prelude.{List, [], ◌∷◌, length, None}
use Rattle.tso_model.specs.Machines.{By, Call, Core, Idle, Label, Machine, Outside, Return, Running, Stopped, Thread}
use Rattle.tso_model.specs.States.{Answered, Began, Called, CompactCore, CompactThread, Executing, Halted, Resting, State, logged}

-- the history after a label: only calls and returns are in it
abbrev pub after_label : List (List Called) → Label → List (List Called)
after_label h (By i (Call k)) = logged h i (Began k)
after_label h (By i (Return a)) = logged h i (Answered a)
after_label h (By i _) = h

-- and after a list of labels
abbrev pub after_labels : List (List Called) → List Label → List (List Called)
after_labels h [] = h
after_labels h (l ∷ ls) = after_labels (after_label h l) ls

-- a compact core as the machine has it: in no locked instruction
abbrev pub core_of : {F : Type 0} → CompactCore F → Core F
core_of Resting = Idle
core_of (Executing f) = Running f Outside
core_of Halted = Stopped

-- a compact thread as the machine has it: its history says how many calls have begun
abbrev pub thread_view : {F : Type 0} → List Called → CompactThread F → Thread F
thread_view h t = record { begun = length h; core = core_of t.core; buffer = t.buffer }

-- thread by thread
abbrev pub thread_views : {F : Type 0} → List (List Called) → List (CompactThread F) → List (Thread F)
thread_views (h ∷ hs) (t ∷ ts) = thread_view h t ∷ thread_views hs ts
thread_views [] ts = []
thread_views (h ∷ hs) [] = []

-- the machine part of a compact state: the lock is free
abbrev pub machine_of : {F : Type 0} → State F → Machine F
machine_of c = record { memory = c.memory; lock = None; threads = thread_views c.history c.threads }
