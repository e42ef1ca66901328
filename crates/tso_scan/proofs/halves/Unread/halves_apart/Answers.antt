use Rattle.std.proofs.Common.{◌/◌, length}
use Rattle.tso_scan.proofs.PartLemmas.{parted}
use Rattle.tso_scan.proofs.halves.Unread.halves_apart.Goals as goal
use Rattle.tso_scan.specs.Parts.{text_of}

pub returns : goal.returns
returns c =
    let all = c.args.self.now.more.now in
    let before = c.split_at.result.0.now in
    let second = c.as_slice-second.result.now in
    let more = c.in_ok-first.more.now in
    record {
      first = text_of c.args.behind.now before;
      left = c.half-left.ensures;
      second = text_of second more;
      right = c.half-right.ensures;
      are = parted c.args.behind.now all before c.split_at.result.1.now (length all / 2) second more c.split_at.ensures.front c.split_at.ensures.back (rw c.as_slice-second.ensures c.in_ok-first.ensures.cases.0);
    }
