-- Marks from which no mark can be added hold each position that control can come to.
use Rattle.std.proofs.Common.{◌≡◌, ℕ, ◌<◌, ◌≤◌, inl, inr, Bool, true, List, [], ◌∷◌, length, subst, arith}
use Rattle.std.specs.Prelude.{Option, None}
use Rattle.std.proofs.lemmas.Option.{slice_get_past}
use Rattle.std.proofs.lemmas.Bool.{cases_lt}
use Rattle.tso_line.specs.declared.instruction.Instruction.{Instruction}
use Rattle.tso_flow.specs.declared.location.Location.{Location}
use Rattle.tso_flow.specs.Paths.{goes_on_from, Path, Reaches}
use Rattle.tso_flow.specs.Marks.{is_marked, IsClosed}

-- where no instruction stands, no path goes on
stays : (tracked : Option Location) (steps : List (Instruction ℕ ℕ)) (path : List ℕ) (k j : ℕ) → length steps ≤ k → Path tracked steps k path j → length steps ≤ j
stays tracked steps [] k j past p = subst (λ (n : ℕ). length steps ≤ n) p past
stays tracked steps (m ∷ ms) k j past p =
    let e : goes_on_from tracked None k m ≡ true = subst (λ (s : Option (Instruction ℕ ℕ)). goes_on_from tracked s k m ≡ true) (slice_get_past steps k past) p.0 in
    absurd cc

along : (tracked : Option Location) (steps : List (Instruction ℕ ℕ)) (marks : List Bool) → length marks ≡ length steps → IsClosed tracked steps marks (length steps)
    → (path : List ℕ) (i j : ℕ) → i < length steps → is_marked marks i ≡ true → Path tracked steps i path j → j < length steps → is_marked marks j ≡ true
along tracked steps marks same closed [] i j lt m p below = subst (λ (n : ℕ). is_marked marks n ≡ true) p m
along tracked steps marks same closed (k ∷ ks) i j lt m p below = elim (cases_lt k (length steps)) [
  | inl h ↦ along tracked steps marks same closed ks k j h (closed i k lt m p.0 (omega arith)) p.1 below
  | inr h ↦ absurd (let far : length steps ≤ j = stays tracked steps ks k j h p.1 in omega arith)
]

pub reached_marked : (tracked : Option Location) (steps : List (Instruction ℕ ℕ)) (marks : List Bool) → length marks ≡ length steps → IsClosed tracked steps marks (length steps) → (0 < length steps → is_marked marks 0 ≡ true)
    → (k : ℕ) → k < length steps → Reaches tracked steps k → is_marked marks k ≡ true
reached_marked tracked steps marks same closed first k lt r =
    let some : 0 < length steps = omega arith in along tracked steps marks same closed r.0 0 k some (first some) r.1 lt
