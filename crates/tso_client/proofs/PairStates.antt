-- The kept states of the pair: memory's place 1 is never stored to, and thread 1, which pops, buffers nothing.
use Rattle.std.proofs.Common.{ℕ, List, [], ◌∷◌, Some, None}
use Rattle.tso_model.specs.Programs.{Push, Pop, Refused, Done}
use Rattle.tso_model.specs.States.{Buffer, Called, CompactCore, Executing, Resting, State}
use Rattle.tso_client.specs.Small.{Frame, Stores, AfterStore, Loads, AfterLoad}

-- place 0's word, thread 0's core and buffer, thread 1's core, and the calls of both
abbrev pub at : ℕ → CompactCore Frame → Buffer → CompactCore Frame → List Called → List Called → State Frame
at x c b d h k = record { memory = x ∷ 0 ∷ []; threads = record { core = c; buffer = b } ∷ record { core = d; buffer = [] } ∷ []; history = h ∷ k ∷ [] }

-- the push, begun when so many pops had returned, before and after its return
abbrev pub push : ℕ → Called
push n = record { kind = Push 7; seen = 0 ∷ n ∷ []; answer = None }

abbrev pub pushed : ℕ → Called
pushed n = record { kind = Push 7; seen = 0 ∷ n ∷ []; answer = Some Done }

-- the pop, begun when so many pushes had returned
abbrev pub pop : ℕ → Called
pop n = record { kind = Pop; seen = n ∷ 0 ∷ []; answer = None }

abbrev pub popped : ℕ → Called
popped n = record { kind = Pop; seen = n ∷ 0 ∷ []; answer = Some Refused }

abbrev pub stored : Buffer
stored = (0, 5) ∷ []

-- the push is called first, or the pop is
abbrev pub a0 : State Frame
a0 = at 0 Resting [] Resting [] []

abbrev pub a1 : State Frame
a1 = at 0 (Executing Stores) [] Resting (push 0 ∷ []) []

abbrev pub a2 : State Frame
a2 = at 0 (Executing AfterStore) stored Resting (push 0 ∷ []) []

abbrev pub a3 : State Frame
a3 = at 0 Resting stored Resting (pushed 0 ∷ []) []

abbrev pub a4 : State Frame
a4 = at 0 Resting stored (Executing Loads) (pushed 0 ∷ []) (pop 1 ∷ [])

abbrev pub a5 : State Frame
a5 = at 0 Resting stored (Executing AfterLoad) (pushed 0 ∷ []) (pop 1 ∷ [])

abbrev pub a6 : State Frame
a6 = at 0 Resting stored Resting (pushed 0 ∷ []) (popped 1 ∷ [])

abbrev pub a7 : State Frame
a7 = at 5 Resting [] Resting (pushed 0 ∷ []) (popped 1 ∷ [])

abbrev pub b1 : State Frame
b1 = at 0 Resting [] (Executing Loads) [] (pop 0 ∷ [])

abbrev pub b2 : State Frame
b2 = at 0 Resting [] (Executing AfterLoad) [] (pop 0 ∷ [])

abbrev pub b3 : State Frame
b3 = at 0 Resting [] Resting [] (popped 0 ∷ [])

abbrev pub b4 : State Frame
b4 = at 0 (Executing Stores) [] Resting (push 1 ∷ []) (popped 0 ∷ [])

abbrev pub b5 : State Frame
b5 = at 0 (Executing AfterStore) stored Resting (push 1 ∷ []) (popped 0 ∷ [])

abbrev pub b6 : State Frame
b6 = at 0 Resting stored Resting (pushed 1 ∷ []) (popped 0 ∷ [])

abbrev pub b7 : State Frame
b7 = at 5 Resting [] Resting (pushed 1 ∷ []) (popped 0 ∷ [])

abbrev pub states : List (State Frame)
states = a0 ∷ a1 ∷ a2 ∷ a3 ∷ a4 ∷ a5 ∷ a6 ∷ a7 ∷ b1 ∷ b2 ∷ b3 ∷ b4 ∷ b5 ∷ b6 ∷ b7 ∷ []
