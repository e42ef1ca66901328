-- Places that no thread but one writes, once the prologue is over: that thread's openings may read them, early or late.
use Rattle.std.specs.Prelude.{◌≡◌, ◌≢◌, ℕ, Bool, true, List, Some, IsTrue}
use Rattle.tso_model.specs.Accesses.{Writes}
use Rattle.tso_model.specs.Measure.{IsRanked}
use Rattle.tso_model.specs.Programs.{CallKind, Program}
use Rattle.tso_model.specs.Reasons.{Future}
use Rattle.tso_model.specs.Reduce.{Steps}
use Rattle.tso_model.specs.States.{State}
use Rattle.tso_model.specs.Steps.{Actor, Move, move, step, thread_of}
use Rattle.tso_model.specs.Table.{IsTableClosed, Table, table_future}
use Rattle.tso_model.specs.WellFormed.{IsWellFormed}
use Rattle.tso_crossing.specs.Moves.{Extent}

-- in no run from s a step of another thread than j, but for the prologue's, writes a place that j's openings may read
abbrev pub AreOwn : {F : Type 0} → Program F → Extent → State F → Type 0
AreOwn {F} p n s =
    (steps : List Actor) (x : State F) (a : Actor) (m : Move F) (j q : ℕ) → Steps (step p) s steps x → move p x a ≡ Some m
    → thread_of a ≢ j → (p.prologue ≡ Some (thread_of a) → ⊥) → n.own j q ≡ true → Writes m.access q → ⊥

-- no opening reads
abbrev pub ReadsNone : Extent → Type 0
ReadsNone n = (j q : ℕ) → n.own j q ≡ true → ⊥

-- no thread but j, or the prologue's, may still write a place that j's openings may read
abbrev pub IsApart : {F : Type 0} → Program F → Extent → Future F → State F → Type 0
IsApart p n f s = (i j q : ℕ) → i ≢ j → (p.prologue ≡ Some i → ⊥) → n.own j q ≡ true → IsTrue (f.writes s i q) → ⊥

-- what a closed table says of a state, once, is enough
abbrev pub ApartIsOwn : Type 0 → Type 0
ApartIsOwn F =
    (p : Program F) (n : Extent) (size : ℕ) (sound : CallKind → F → Bool) (rank : F → ℕ) (t : Table F) → IsRanked p size sound rank → IsTableClosed p sound t
    → (s : State F) → IsWellFormed p size sound s → IsApart p n (table_future p t) s → AreOwn p n s
