use Rattle.std.proofs.Common.{◌≡◌, ◌+◌}
use Rattle.tso_replay.proofs.replay.go_forward.Given as goal

abbrev pub invariant-loop : goal.invariant-loop
invariant-loop l =
    (l.cursor.position ≡ l.initial.cursor.position + l.counter) × (l.cursor.client ≡ l.initial.cursor.client) × (l.cursor.labels ≡ l.initial.cursor.labels)
