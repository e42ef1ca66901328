use Rattle.std.proofs.Common.{◌≡◌, ◌+◌, vec_len, length}
use Rattle.tso_pool.proofs.crew.close_all.Given as goal

abbrev pub invariant-loop-turn : goal.invariant-loop-turn
invariant-loop-turn g l = l.share.parts + length l.turn-iterator.rest.items ≡ l.fn.share.parts + vec_len l.fn.turns
