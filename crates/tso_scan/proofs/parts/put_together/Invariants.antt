use Rattle.std.specs.Prelude.{◌≡◌, drop}
use Rattle.tso_scan.proofs.parts.put_together.Given as goal
use Rattle.tso_scan.specs.Parts.{text_of}

abbrev pub invariant-loop-part : goal.invariant-loop-part
invariant-loop-part l = text_of l.all.items (drop l.part-index l.more) ≡ text_of l.first l.more
