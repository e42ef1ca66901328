use Rattle.tso_scan.proofs.HalfLemmas.{end_from, end_long}
use Rattle.std.proofs.Common.{◌-◌, arith, length}
use Rattle.tso_scan.proofs.halves.last_bytes.Goals as goal

pub returns : goal.returns
returns c = (
  end_from c.args.bytes.now c.split_at.result.1.now (length c.args.bytes.now - c.args.count) c.split_at.ensures.back,
  end_long c.args.bytes.now c.split_at.result.1.now c.args.count (omega (arith, c.if-count-bytes.false)) c.split_at.ensures.back,
)
