use Rattle.std.proofs.Common.{◌≤◌, vec_len}
use Rattle.tso_front.proofs.files.read_bytes.Given as goal

abbrev pub invariant-loop : goal.invariant-loop
invariant-loop g l = vec_len l.bytes ≤ l.limit
