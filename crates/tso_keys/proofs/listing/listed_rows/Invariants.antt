use Rattle.std.proofs.Common.{take}
use Rattle.tso_keys.specs.Listing.{AreListed}
use Rattle.tso_keys.proofs.listing.listed_rows.Given as goal

abbrev pub invariant-loop-history : goal.invariant-loop-history
invariant-loop-history l = AreListed l.lists l.width (take l.history-index l.histories) l.rows.items
