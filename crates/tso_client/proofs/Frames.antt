-- The frames of the small programs: which can occur in which call, and a rank that falls at each instruction.
use Rattle.std.proofs.Common.{◌≡◌, ℕ, ◌<◌, Bool, true, false, List, Option, refl, ap, arith}
use Rattle.tso_model.specs.Measure.{IsRanked}
use Rattle.tso_model.specs.Programs.{CallKind, Push, Pop, Answer, Refused, Done, IsAnswerOf, Silent, Load, Store, Barrier, Locked, Ret, Fail, FaultKind}
use Rattle.tso_client.specs.Small.{Frame, Stores, AfterStore, Loads, AfterLoad, next, program, start}

-- the frames of each call
abbrev pub sound : CallKind → Frame → Bool
sound (Push v) Stores = true
sound (Push v) AfterStore = true
sound Pop Loads = true
sound Pop AfterLoad = true
sound (Push v) Loads = false
sound (Push v) AfterLoad = false
sound Pop Stores = false
sound Pop AfterStore = false

abbrev pub rank : Frame → ℕ
rank Stores = 2
rank AfterStore = 1
rank Loads = 2
rank AfterLoad = 1

starts_sound : (c : CallKind) → sound c (start c) ≡ true
starts_sound (Push v) = refl
starts_sound Pop = refl

no_silent : (q : ℕ) (f g : Frame) → next q f ≡ Silent g → ⊥
no_silent q Stores g e = cc
no_silent q AfterStore g e = cc
no_silent q Loads g e = cc
no_silent q AfterLoad g e = cc

no_barrier : (q : ℕ) (f g : Frame) → next q f ≡ Barrier g → ⊥
no_barrier q Stores g e = cc
no_barrier q AfterStore g e = cc
no_barrier q Loads g e = cc
no_barrier q AfterLoad g e = cc

no_locked : (q : ℕ) (f : Frame) (p : ℕ) (n : ℕ → ℕ) (k : ℕ → Frame) → next q f ≡ Locked p n k → ⊥
no_locked q Stores p n k e = cc
no_locked q AfterStore p n k e = cc
no_locked q Loads p n k e = cc
no_locked q AfterLoad p n k e = cc

no_fail : (q : ℕ) (f : Frame) (n : FaultKind) → next q f ≡ Fail n → ⊥
no_fail q Stores n e = cc
no_fail q AfterStore n e = cc
no_fail q Loads n e = cc
no_fail q AfterLoad n e = cc

load_is : (q : ℕ) (f : Frame) (p : ℕ) (k : ℕ → Frame) (v : ℕ) → next q f ≡ Load p k → (f ≡ Loads) × (k v ≡ AfterLoad)
load_is q Stores p k v e = cc
load_is q AfterStore p k v e = cc
load_is q Loads p k v e = (let q : k ≡ (λ w. AfterLoad) = cc in (refl, ap (λ (h : ℕ → Frame). h v) q))
load_is q AfterLoad p k v e = cc

store_is : (q : ℕ) (f : Frame) (p v : ℕ) (g : Frame) → next q f ≡ Store p v g → (f ≡ Stores) × (g ≡ AfterStore) × (p ≡ 0)
store_is q Stores p v g e = (refl, cc, cc)
store_is q AfterStore p v g e = cc
store_is q Loads p v g e = cc
store_is q AfterLoad p v g e = cc

load_sound : (c : CallKind) → sound c Loads ≡ true → sound c AfterLoad ≡ true
load_sound (Push v) e = cc
load_sound Pop e = refl

store_sound : (c : CallKind) → sound c Stores ≡ true → sound c AfterStore ≡ true
store_sound (Push v) e = refl
store_sound Pop e = cc

ret_is : (q : ℕ) (c : CallKind) (f : Frame) (a : Answer) → sound c f ≡ true → next q f ≡ Ret a → IsAnswerOf c a × (0 < rank f)
ret_is q c Stores a s e = cc
ret_is q c Loads a s e = cc
ret_is q (Push v) AfterStore a s e = (let q : a ≡ Done = cc in rw q tt, omega arith)
ret_is q Pop AfterStore a s e = cc
ret_is q (Push v) AfterLoad a s e = cc
ret_is q Pop AfterLoad a s e = (let q : a ≡ Refused = cc in rw q tt, omega arith)

pub ranked : (q : ℕ) (calls : List (List CallKind)) (prologue : Option ℕ) (size : ℕ) → 0 < size → IsRanked (program q calls prologue) size sound rank
ranked q calls prologue size room = record {
  starts = λ i n c e. starts_sound c;
  silent = λ c f g s e. absurd (no_silent q f g e);
  load = λ c f p k v s e. (let (here, after) = load_is q f p k v e in rw (here, after) (load_sound c (rw here at s), omega arith));
  store = λ c f p v g s e. (let (here, after, at) = store_is q f p v g e in rw (here, after, at) (store_sound c (rw here at s), omega arith, room));
  barrier = λ c f g s e. absurd (no_barrier q f g e);
  locked = λ c f p n k v s e. absurd (no_locked q f p n k e);
  ret = ret_is q;
  fail = λ c f n s e. absurd (no_fail q f n e);
}
