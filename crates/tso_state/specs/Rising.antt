-- States that rise.
use Rattle.std.specs.Prelude.{◌≡◌, List, [], ◌∷◌}
use Rattle.std.specs.List.{AllByRecursion}
use Rattle.std.specs.declared.cmp.Ordering.TheVariants.{Less}
use Rattle.tso_state.specs.Order.{state_cmp}
use Rattle.tso_state.specs.declared.state.State.{State}

abbrev pub IsBelow : State → State → Type 0
IsBelow s t = state_cmp s t ≡ Less

abbrev pub IsAtMost : State → State → Type 0
IsAtMost s t = IsBelow t s → ⊥

-- each state is below all that come after it
abbrev pub IsRising : List State → Type 0
IsRising [] = Unit {0}
IsRising (x ∷ xs) = AllByRecursion (λ y. IsBelow x y) xs × IsRising xs
