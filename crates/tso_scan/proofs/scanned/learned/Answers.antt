use Rattle.std.proofs.Common.{◌∙◌}
use Rattle.tso_scan.proofs.scanned.learned.Goals as goal

pub returns-in-Ok : goal.returns-in-Ok
returns-in-Ok c =
    let made = c.put_together.ensures in
    record {
      table = made.table;
      client = made.client ∙ c.in-Ok.ensures.client;
      states = made.states ∙ c.in-Ok.ensures.states;
      ends = made.ends;
      shape = made.shape;
    }
