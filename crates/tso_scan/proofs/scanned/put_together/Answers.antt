use Rattle.std.proofs.Common.{refl}
use Rattle.tso_scan.proofs.scanned.put_together.Goals as goal

pub returns : goal.returns
returns c = record { table = refl; client = refl; states = refl; ends = refl; shape = refl }
