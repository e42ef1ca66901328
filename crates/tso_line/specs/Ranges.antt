-- What is well written, and in its range or not.
use Rattle.std.specs.Prelude.{Bool, true, List, [], ◌∷◌, Option, Some, None, option_and_then}
use Rattle.std.specs.Option.{option_map}
use Rattle.tso_line.specs.declared.lexeme.Ranged.{Ranged}
use Rattle.tso_line.specs.declared.lexeme.Ranged.TheVariants.{Within, OutOfRange}

abbrev pub within : {A : Type 0} → Ranged A → Option A
within (Within x) = Some x
within OutOfRange = None

abbrev pub ranged : {A : Type 0} → Option A → Ranged A
ranged (Some x) = Within x
ranged None = OutOfRange

-- all of them, if each is in its range
unfoldable pub all_within : {A : Type 0} → List (Ranged A) → Option (List A)
all_within [] = Some []
all_within (x ∷ xs) = option_and_then (λ y. option_map (λ ys. y ∷ ys) (all_within xs)) (within x)

-- out of its range, or what passes
abbrev pub or_out : {A : Type 0} → (A → Bool) → Ranged A → Bool
or_out p OutOfRange = true
or_out p (Within x) = p x

abbrev pub IfWithin : {A : Type 0} → Ranged A → (A → Type 0) → Type 0
IfWithin OutOfRange P = Unit {0}
IfWithin (Within x) P = P x
