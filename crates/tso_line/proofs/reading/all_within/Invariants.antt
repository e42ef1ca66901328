use Rattle.std.proofs.Common.{◌≡◌, drop}
use Rattle.tso_line.specs.Ranges.{all_within}
use Rattle.tso_line.proofs.Each.{with_front}
use Rattle.tso_line.proofs.reading.all_within.Given as goal

abbrev pub invariant-loop-value : goal.invariant-loop-value
invariant-loop-value g l = with_front l.found.items (all_within (drop l.value-index l.values)) ≡ all_within l.values
