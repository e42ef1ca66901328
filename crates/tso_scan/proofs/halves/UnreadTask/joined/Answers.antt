use Rattle.tso_scan.proofs.halves.UnreadTask.joined.Goals as goal

pub read_joined-requires-clause-first : goal.read_joined-requires-clause-first
read_joined-requires-clause-first c = rw c.in-Some.is at c.requires.first

pub read_joined-requires-clause-second : goal.read_joined-requires-clause-second
read_joined-requires-clause-second c = rw c.in-Some-second.is at c.requires.second
