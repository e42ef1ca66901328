use Rattle.tso_cells.proofs.RowLemmas.{settled}
use Rattle.tso_cells.proofs.rows.settle.Goals as goal

pub returns : goal.returns
returns c =
    let took = c.take_at.ensures in
    let rounds = c.spread_rounds.ensures in
    let filled = c.fill.ensures in
    let closed = c.close.ensures in
    settled c.args.steps.now c.args.rows.now c.take_at.new.rows c.spread_rounds.new.rows c.fill.new.rows c.close.new.rows c.args.entry.now c.requires.same
    took.grown.count took.grown.keeps took.holds rounds.count rounds.keeps filled.count filled.keeps closed.count closed.keeps closed.proper closed.passed
