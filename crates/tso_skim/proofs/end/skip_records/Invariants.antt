use Rattle.std.proofs.Common.{◌≡◌, ◌-◌}
use Rattle.tso_code.specs.Fields.{items_at}
use Rattle.tso_rec.specs.Spelling.{record_at}
use Rattle.tso_skim.specs.Skips.{after}
use Rattle.tso_skim.proofs.end.skip_records.Given as goal

abbrev pub invariant-loop : goal.invariant-loop
invariant-loop l = after (items_at (record_at l.grain) (l.count - l.counter) l.rest) ≡ after (items_at (record_at l.grain) l.count l.bytes)
