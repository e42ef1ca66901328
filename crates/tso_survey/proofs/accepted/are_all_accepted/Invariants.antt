use Rattle.std.proofs.Common.{ℕ, ◌<◌, Global, Vec}
use Rattle.std.specs.List.{slice_index_or}
use Rattle.tso_client.specs.Headline.{IsVerified}
use Rattle.tso_survey.proofs.accepted.are_all_accepted.Given as goal

abbrev pub invariant-loop-number : goal.invariant-loop-number
invariant-loop-number l = (k : ℕ) (d : Vec ℕ Global) → k < l.number → ∥ IsVerified (slice_index_or l.texts k d).items ∥₁
