-- How the order of neighbours is tested. Nothing here need be believed: the test is exact.
use Rattle.std.specs.Prelude.{◌-◌, ◌<◌, ◌≤◌, ℕ, List}
use Rattle.std.specs.declared.cmp.Ordering.TheVariants.{Less}
use Rattle.tso_state.specs.declared.state.State.{State}
use Rattle.tso_keys.specs.Orders.{IsOrderOf}

-- each state with a number from one up to another is above the one before
abbrev pub RisesBetween : List State → ℕ → ℕ → Type 0
RisesBetween states from to = (k : ℕ) → from ≤ k → k < to → IsOrderOf states (k - 1) k Less
