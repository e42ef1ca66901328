use Rattle.std.proofs.Common.{◌≡◌, ◌++◌, drop}
use Rattle.tso_keys.specs.Numbers.{values_at}
use Rattle.tso_keys.proofs.view.copied_threads.Given as goal

abbrev pub invariant-loop-number : goal.invariant-loop-number
invariant-loop-number l = l.copies ++ values_at l.threads (drop l.number-index l.numbers) ≡ values_at l.threads l.numbers
