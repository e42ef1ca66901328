use Rattle.std.proofs.Common.{◌∙◌, refl}
use Rattle.tso_cells.proofs.RowLemmas.{rows_refl, rows_trans}
use Rattle.tso_cells.proofs.rows.spread_rounds.Goals as goal

pub loop-round-init : goal.loop-round-init
loop-round-init c = record { count = refl; keeps = rows_refl c.args.rows.now }

pub loop-round-preserved : goal.loop-round-preserved
loop-round-preserved c =
    let known = c.loop-round.invariant in
    record {
      count = c.spread_seen.ensures.count ∙ known.count;
      keeps = rows_trans c.args.rows.now c.loop-round.rows c.spread_seen.new.rows known.count known.keeps c.spread_seen.ensures.keeps;
    }
