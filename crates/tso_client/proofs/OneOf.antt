-- Lists of states: a test of being one of them, and facts of each.
use Rattle.std.proofs.Common.{◌≡◌, ◌||◌, Bool, true, false, List, [], ◌∷◌, inl, inr, subst}
use Rattle.std.proofs.lemmas.Bool.{or_cases}
use Rattle.tso_model.specs.Reduce.{Has}
use Rattle.tso_model.specs.States.{State}
use Rattle.tso_client.specs.Small.{Frame}
use Rattle.tso_client.proofs.Same.{same_state, state_tells}

abbrev pub is_one : List (State Frame) → State Frame → Bool
is_one [] s = false
is_one (x ∷ xs) s = same_state x s || is_one xs s

pub one_has : (xs : List (State Frame)) (s : State Frame) → is_one xs s ≡ true → Has xs s
one_has [] s e = cc
one_has (x ∷ xs) s e = elim (or_cases (same_state x s) (is_one xs s) e) [ inl a ↦ inl (state_tells x s a) | inr b ↦ inr (one_has xs s b) ]

abbrev pub Each : {X : Type 0} → (X → Type 0) → List X → Type 0
Each P [] = Unit {0}
Each P (x ∷ xs) = P x × Each P xs

pub each : {X : Type 0} (P : X → Type 0) (xs : List X) (x : X) → Each P xs → Has xs x → P x
each P [] x ps h = absurd h
each P (y ∷ ys) x (p, ps) (inl e) = subst P e p
each P (y ∷ ys) x (p, ps) (inr h) = each P ys x ps h
