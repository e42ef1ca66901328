use Rattle.std.proofs.Common.{◌≡◌, ◌+◌, length}
use Rattle.tso_pool.specs.Numbering.{AreNumbered}
use Rattle.tso_pool.specs.Seats.{place_of}
use Rattle.tso_pool.proofs.working.follow_all.Given as goal

abbrev pub invariant-loop-choice : goal.invariant-loop-choice
invariant-loop-choice g l = record {
  parts : l.share.parts ≡ l.fn.share.parts;
  place : place_of l.seat ≡ place_of l.fn.seat;
  numbered : AreNumbered l.team.checked.now.client l.own l.kept.state l.choices l.moves;
  count : length l.moves.numbers ≡ l.choice-index;
  counted : l.share.amount ≡ l.fn.share.amount + l.choice-index;
}
