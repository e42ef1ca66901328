-- What one step of the search for marks keeps.
use Rattle.std.proofs.Common.{◌≡◌, ℕ, ◌+◌, ◌<◌, ◌⊎◌, inl, inr, Bool, true, false, ◌||◌, List, [], ◌∷◌, ◌++◌, length, refl, sym, subst, ◌∙◌, arith}
use Rattle.std.specs.Prelude.{Option, Some, slice_get}
use Rattle.std.proofs.Common.{below_more}
use Rattle.std.proofs.lemmas.Bool.{or_left, or_right, or_cases}
use Rattle.tso_line.specs.declared.instruction.Instruction.{Instruction}
use Rattle.tso_flow.specs.declared.location.Location.{Location}
use Rattle.tso_flow.specs.Paths.{goes_on_from, is_edge, Path, Reaches}
use Rattle.tso_flow.specs.Marks.{is_marked, AllReached, IsClosed}

-- two writes one after the other
pub either_only : (p q : ℕ → Bool) (old mid new : List Bool) → ((k : ℕ) → is_marked mid k ≡ true → (is_marked old k ≡ true) ⊎ (p k ≡ true)) → ((k : ℕ) → is_marked new k ≡ true → (is_marked mid k ≡ true) ⊎ (q k ≡ true)) → (k : ℕ) → is_marked new k ≡ true → (is_marked old k ≡ true) ⊎ ((p k || q k) ≡ true)
either_only p q old mid new f g k m =
    elim (g k m) [ inl a ↦ elim (f k a) [ inl b ↦ inl b | inr b ↦ inr (or_left (p k) (q k) b) ] | inr a ↦ inr (or_right (p k) (q k) a) ]

pub either_old : (p q : ℕ → Bool) (old mid new : List Bool) → (mid ≡ old) × ((k : ℕ) → p k ≡ true → k < length old → is_marked old k ≡ true) → (new ≡ mid) × ((k : ℕ) → q k ≡ true → k < length mid → is_marked mid k ≡ true) → (new ≡ old) × ((k : ℕ) → (p k || q k) ≡ true → k < length old → is_marked old k ≡ true)
either_old p q old mid new f g =
    let at_old = subst (λ (xs : List Bool). (k : ℕ) → q k ≡ true → k < length xs → is_marked xs k ≡ true) f.0 g.1 in
    (g.0 ∙ f.0, λ k e lt. elim (or_cases (p k) (q k) e) [ inl a ↦ f.1 k a lt | inr a ↦ at_old k a lt ])

-- ---- paths

longer : (tracked : Option Location) (steps : List (Instruction ℕ ℕ)) (path : List ℕ) (i j k : ℕ) → Path tracked steps i path j → is_edge tracked steps j k ≡ true → Path tracked steps i (path ++ (k ∷ [])) k
longer tracked steps [] i j k p e = (subst (λ (n : ℕ). is_edge tracked steps n k ≡ true) (sym p) e, refl)
longer tracked steps (m ∷ ms) i j k p e = (p.0, longer tracked steps ms m j k p.1 e)

pub reaches_next : (tracked : Option Location) (steps : List (Instruction ℕ ℕ)) (j k : ℕ) → Reaches tracked steps j → is_edge tracked steps j k ≡ true → Reaches tracked steps k
reaches_next tracked steps j k r e = (r.0 ++ (k ∷ []), longer tracked steps r.0 0 j k r.1 e)

pub all_reached : (tracked : Option Location) (steps : List (Instruction ℕ ℕ)) (old new : List Bool) (i : ℕ) (step : Instruction ℕ ℕ) → slice_get steps i ≡ Some step → AllReached tracked steps old
    → ((k : ℕ) → is_marked new k ≡ true → (is_marked old k ≡ true) ⊎ ((is_marked old i ≡ true) × (goes_on_from tracked (Some step) i k ≡ true))) → AllReached tracked steps new
all_reached tracked steps old new i step is all only k m =
    elim (only k m) [ inl a ↦ all k a | inr a ↦ reaches_next tracked steps i k (all i a.0) (subst (λ (s : Option (Instruction ℕ ℕ)). goes_on_from tracked s i k ≡ true) (sym is) a.1) ]

pub closed_more : (tracked : Option Location) (steps : List (Instruction ℕ ℕ)) (marks : List Bool) (i : ℕ) (step : Instruction ℕ ℕ) → slice_get steps i ≡ Some step → IsClosed tracked steps marks i
    → ((k : ℕ) → is_marked marks i ≡ true → goes_on_from tracked (Some step) i k ≡ true → k < length marks → is_marked marks k ≡ true) → IsClosed tracked steps marks (i + 1)
closed_more tracked steps marks i step is closed here =
    let P : ℕ → Type 0 = λ a. (j : ℕ) → is_marked marks a ≡ true → is_edge tracked steps a j ≡ true → j < length marks → is_marked marks j ≡ true in
    let last : P i = λ j m e lt. here j m (subst (λ (s : Option (Instruction ℕ ℕ)). goes_on_from tracked s i j ≡ true) is e) lt in
    λ a j below m e lt. below_more P i (λ b h k. closed b k h) last a below j m e lt

-- ---- counts

pub less : (grown : Bool) (a b c : ℕ) → a < b → (grown ≡ true → b < c) → (grown ≡ false → b ≡ c) → a < c
less true a b c lt f g = let h : b < c = f refl in omega arith
less false a b c lt f g = let h : b ≡ c = g refl in omega arith
