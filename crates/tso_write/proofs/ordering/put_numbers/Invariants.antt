use Rattle.std.proofs.Common.{◌≡◌, ◌++◌, map, take}
use Rattle.tso_write.proofs.ordering.put_numbers.Given as goal

abbrev pub invariant-loop-it : goal.invariant-loop-it
invariant-loop-it l = l.out.items ≡ l.initial.out.items ++ map (λ p. p.number) (take l.it-index l.all)
