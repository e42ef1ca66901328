-- What is added to a text piece by piece.
use Rattle.std.proofs.Common.{append_assoc, append-nil}

pub ruleset joins = (append_assoc, append-nil)
