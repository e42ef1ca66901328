use Rattle.std.proofs.Common.{◌≡◌, ◌-◌}
use Rattle.tso_code.specs.Fields.{items_at}
use Rattle.tso_skim.specs.Skips.{after}
use Rattle.tso_skim.proofs.skip.skip_items.Given as goal

abbrev pub invariant-loop : goal.invariant-loop
invariant-loop g l = after (items_at g.T.Code.read_at (l.count - l.counter) l.rest) ≡ after (items_at g.T.Code.read_at l.count l.bytes)
