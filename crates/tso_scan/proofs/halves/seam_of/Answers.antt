use Rattle.std.proofs.Common.{refl}
use Rattle.tso_scan.proofs.PartLemmas.{end_of_end}
use Rattle.tso_scan.proofs.halves.seam_of.Goals as goal
use Rattle.tso_scan.specs.Halves.{stretch_at}

pub returns-in-Some-room_behind : goal.returns-in-Some-room_behind
returns-in-Some-room_behind c =
    let end = c.in-Some.ensures in
    record {
      end = c.in-Some.end.now;
      ends = end_of_end (stretch_at c.args.left.now).bytes c.last_part.result.now c.in-Some.end.now c.last_part.ensures end.0;
      long = end.1;
      rest = c.in-Some-2.rest.now;
      reads = rw c.in-Some-2.is at c.in_ok-middle.ensures;
      meet = c.if-not-do_meet.ensures refl;
      fits = c.in-Some-room_behind.ensures;
    }
