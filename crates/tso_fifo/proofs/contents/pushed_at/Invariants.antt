use Rattle.std.proofs.Common.{◌≡◌, slice_get, drop}
use Rattle.tso_fifo.specs.Contents.{pushed}
use Rattle.tso_hist.specs.Views.{history_view}
use Rattle.tso_fifo.proofs.contents.pushed_at.Given as goal

abbrev pub invariant-loop-placed : goal.invariant-loop-placed
invariant-loop-placed l = slice_get (pushed (history_view l.history) (drop l.placed-index l.order)) l.left ≡ slice_get (pushed (history_view l.history) l.order) l.place
