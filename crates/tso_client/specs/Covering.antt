-- When a program covers another: the same instructions, and for each thread one of the other's whose calls begin with its own.
use Rattle.std.specs.Prelude.{◌≡◌, ◌⊎◌, ℕ, ◌<◌, List, [], ◌++◌, length, Some}
use Rattle.tso_model.specs.Programs.{CallKind, Program, calls_of}

-- the first list is a beginning of the second
abbrev pub IsBeginning : {A : Type 0} → List A → List A → Type 0
IsBeginning {A} xs ys = (more : List A) × (ys ≡ xs ++ more)

-- P has a prologue too, which is Q's thread j under Q's numbers, and both make the same calls there
pub record IsPrologueOf {F : Type 0} (e : ℕ → ℕ) (P Q : Program F) (j : ℕ) : Type 0 where
  pub thread : ℕ
  pub named : P.prologue ≡ Some thread
  pub within : thread < length P.calls
  pub goes : e thread ≡ j
  pub calls : calls_of Q j ≡ calls_of P thread

-- Q covers P, whose thread i is Q's thread e i: the two differ in nothing but the calls of their threads and in the numbers of these.
-- No two threads of P are one of Q's; each makes a beginning of the calls that Q's makes; Q may have more threads. Where Q has a
-- prologue that makes calls, P has it too, with the same calls: with none, or with fewer, P's other threads could begin sooner.
pub record CoversBy {F : Type 0} (e : ℕ → ℕ) (P Q : Program F) : Type 0 where
  pub next : (f : F) → Q.next f ≡ P.next f
  pub start : (k : CallKind) → Q.start k ≡ P.start k
  pub within : (i : ℕ) → i < length P.calls → e i < length Q.calls
  pub apart : (i j : ℕ) → i < length P.calls → j < length P.calls → e i ≡ e j → i ≡ j
  pub calls : (i : ℕ) → i < length P.calls → IsBeginning (calls_of P i) (calls_of Q (e i))
  pub prologue : (j : ℕ) → Q.prologue ≡ Some j → (calls_of Q j ≡ []) ⊎ IsPrologueOf e P Q j

-- by some numbers
abbrev pub Covers : {F : Type 0} → Program F → Program F → Type 0
Covers P Q = (e : ℕ → ℕ) × CoversBy e P Q
