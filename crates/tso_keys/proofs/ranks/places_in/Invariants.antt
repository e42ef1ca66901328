use Rattle.std.proofs.Common.{◌≡◌, ◌<◌, ℕ, Some, length, slice_get}
use Rattle.tso_keys.specs.Orders.{HasPlace}
use Rattle.tso_keys.proofs.ranks.places_in.Given as goal

abbrev pub invariant-loop-place : goal.invariant-loop-place
invariant-loop-place l = (length l.ranks.items ≡ l.count) × ((i n : ℕ) → i < l.place → slice_get l.order i ≡ Some n → HasPlace l.order l.ranks.items n)
