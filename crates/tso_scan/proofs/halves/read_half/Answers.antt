use Rattle.tso_scan.proofs.HalfLemmas.{half_read}
use Rattle.tso_scan.proofs.halves.read_half.Goals as goal

pub returns-in-Ok-Some : goal.returns-in-Ok-Some
returns-in-Ok-Some c =
    half_read c.args.checked.now.client c.new-scan.result c.read_twig.new.scan c.args.depth c.args.room c.args.bytes.now c.in-Ok-Some.twig c.half_of.result c.new-scan.ensures.states c.new-scan.ensures.ends c.half_of.ensures (rw c.in-Ok-Some.field-0-is at c.in-Ok-Some.ensures)
