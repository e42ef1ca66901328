-- A test of compact states for being the same.
use Rattle.std.proofs.Common.{◌≡◌, ℕ, ◌==◌, ◌&&◌, Bool, true, false, List, [], ◌∷◌, Option, Some, None, refl, ap}
use Rattle.std.proofs.lemmas.Bool.{eqb-true}
use Rattle.tso_model.specs.Programs.{CallKind, Push, Pop, Answer, Refused, Done, Value}
use Rattle.tso_model.specs.States.{CompactCore, Resting, Executing, Halted, CompactThread, Called, State}
use Rattle.tso_client.specs.Small.{Frame, Stores, AfterStore, Loads, AfterLoad}

-- a test that passes no two different ones
abbrev pub Tells : {X : Type 0} → (X → X → Bool) → Type 0
Tells {X} f = (x y : X) → f x y ≡ true → x ≡ y

both : (a b : Bool) → (a && b) ≡ true → (a ≡ true) × (b ≡ true)
both true b e = (refl, e)
both false b e = cc

abbrev same_list : {X : Type 0} → (X → X → Bool) → List X → List X → Bool
same_list f [] [] = true
same_list f (x ∷ xs) (y ∷ ys) = f x y && same_list f xs ys
same_list f [] (y ∷ ys) = false
same_list f (x ∷ xs) [] = false

list_tells : {X : Type 0} (f : X → X → Bool) → Tells f → Tells (same_list f)
list_tells f t [] [] e = refl
list_tells f t (x ∷ xs) (y ∷ ys) e = let (a, b) = both (f x y) (same_list f xs ys) e in let q = t x y a in let qs = list_tells f t xs ys b in cc
list_tells f t [] (y ∷ ys) e = cc
list_tells f t (x ∷ xs) [] e = cc

number_tells : Tells (λ m n. m == n)
number_tells m n e = eqb-true m n e

abbrev same_frame : Frame → Frame → Bool
same_frame Stores Stores = true
same_frame AfterStore AfterStore = true
same_frame Loads Loads = true
same_frame AfterLoad AfterLoad = true
same_frame _ _ = false

frame_tells : Tells same_frame
frame_tells Stores Stores e = refl
frame_tells AfterStore AfterStore e = refl
frame_tells Loads Loads e = refl
frame_tells AfterLoad AfterLoad e = refl
frame_tells _ _ e = cc

abbrev same_core : CompactCore Frame → CompactCore Frame → Bool
same_core Resting Resting = true
same_core (Executing f) (Executing g) = same_frame f g
same_core Halted Halted = true
same_core _ _ = false

core_tells : Tells same_core
core_tells Resting Resting e = refl
core_tells (Executing f) (Executing g) e = ap Executing (frame_tells f g e)
core_tells Halted Halted e = refl
core_tells _ _ e = cc

abbrev same_kind : CallKind → CallKind → Bool
same_kind (Push v) (Push w) = v == w
same_kind Pop Pop = true
same_kind _ _ = false

kind_tells : Tells same_kind
kind_tells (Push v) (Push w) e = ap Push (eqb-true v w e)
kind_tells Pop Pop e = refl
kind_tells _ _ e = cc

abbrev same_answer : Option Answer → Option Answer → Bool
same_answer None None = true
same_answer (Some Refused) (Some Refused) = true
same_answer (Some Done) (Some Done) = true
same_answer (Some (Value v)) (Some (Value w)) = v == w
same_answer _ _ = false

answer_tells : Tells same_answer
answer_tells None None e = refl
answer_tells (Some Refused) (Some Refused) e = refl
answer_tells (Some Done) (Some Done) e = refl
answer_tells (Some (Value v)) (Some (Value w)) e = ap (λ n. Some (Value n)) (eqb-true v w e)
answer_tells _ _ e = cc

abbrev same_entry : ℕ × ℕ → ℕ × ℕ → Bool
same_entry x y = (x.0 == y.0) && (x.1 == y.1)

entry_tells : Tells same_entry
entry_tells x y e = let (a, b) = both (x.0 == y.0) (x.1 == y.1) e in let p = eqb-true x.0 y.0 a in let q = eqb-true x.1 y.1 b in λ i. (p i, q i)

abbrev same_thread : CompactThread Frame → CompactThread Frame → Bool
same_thread t u = same_core t.core u.core && same_list same_entry t.buffer u.buffer

thread_tells : Tells same_thread
thread_tells t u e =
    let (a, b) = both (same_core t.core u.core) (same_list same_entry t.buffer u.buffer) e in
    let p = core_tells t.core u.core a in
    let q = list_tells same_entry entry_tells t.buffer u.buffer b in
    λ i. record { core = p i; buffer = q i }

abbrev same_called : Called → Called → Bool
same_called c d = same_kind c.kind d.kind && (same_list (λ m n. m == n) c.seen d.seen && same_answer c.answer d.answer)

called_tells : Tells same_called
called_tells c d e =
    let (a, r) = both (same_kind c.kind d.kind) (same_list (λ m n. m == n) c.seen d.seen && same_answer c.answer d.answer) e in
    let (b, z) = both (same_list (λ m n. m == n) c.seen d.seen) (same_answer c.answer d.answer) r in
    let p = kind_tells c.kind d.kind a in
    let q = list_tells (λ m n. m == n) number_tells c.seen d.seen b in
    let s = answer_tells c.answer d.answer z in
    λ i. record { kind = p i; seen = q i; answer = s i }

abbrev pub same_state : State Frame → State Frame → Bool
same_state s t = same_list (λ m n. m == n) s.memory t.memory && (same_list same_thread s.threads t.threads && same_list (same_list same_called) s.history t.history)

pub state_tells : Tells same_state
state_tells s t e =
    let (a, r) = both (same_list (λ m n. m == n) s.memory t.memory) (same_list same_thread s.threads t.threads && same_list (same_list same_called) s.history t.history) e in
    let (b, z) = both (same_list same_thread s.threads t.threads) (same_list (same_list same_called) s.history t.history) r in
    let p = list_tells (λ m n. m == n) number_tells s.memory t.memory a in
    let q = list_tells same_thread thread_tells s.threads t.threads b in
    let h = list_tells (same_list same_called) (list_tells same_called called_tells) s.history t.history z in
    λ i. record { memory = p i; threads = q i; history = h i }
