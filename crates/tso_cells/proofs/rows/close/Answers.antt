use Rattle.std.proofs.Common.{◌∙◌, refl}
use Rattle.tso_cells.proofs.RowLemmas.{rows_refl, rows_trans}
use Rattle.tso_cells.proofs.rows.close.Goals as goal

pub grow-init : goal.grow-init
grow-init c = record { count = refl; keeps = rows_refl c.args.rows.now; proper = c.requires.proper }

pub grow-preserved : goal.grow-preserved
grow-preserved c =
    let known = c.grow.invariant in
    record {
      count = c.spread_wide.ensures.grown.count ∙ known.count;
      keeps = rows_trans c.args.rows.now c.grow.rows c.spread_wide.new.rows known.count known.keeps c.spread_wide.ensures.grown.keeps;
      proper = c.spread_wide.ensures.proper known.proper;
    }

pub grow-smaller : goal.grow-smaller
grow-smaller c = c.spread_wide.ensures.grown.fewer refl c.if-not-spread_wide.false

pub returns : goal.returns
returns c =
    let known = c.grow.invariant in
    record {
      count = c.spread_wide.ensures.grown.count ∙ known.count;
      keeps = rows_trans c.args.rows.now c.grow.rows c.spread_wide.new.rows known.count known.keeps c.spread_wide.ensures.grown.keeps;
      proper = c.spread_wide.ensures.proper known.proper;
      passed = c.spread_wide.ensures.passed c.if-not-spread_wide.true;
    }
