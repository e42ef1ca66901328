use Rattle.std.proofs.Common.{◌≡◌, length}
use Rattle.tso_choose.proofs.ChoosingLemmas.{AreNoted}
use Rattle.tso_choose.proofs.choosing.note_needs.Given as goal

abbrev pub invariant-loop-number : goal.invariant-loop-number
invariant-loop-number g l = record {
  size : length l.needs ≡ length l.initial.needs;
  noted : AreNoted l.checked.client l.table (g.S.Viewed.state l.state) l.number l.needs;
}
