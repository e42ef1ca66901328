use Rattle.std.proofs.Common.{◌≡◌, ◌∙◌, sym, subst, List, length, refl}
use Rattle.tso_cells.proofs.RowLemmas.{range_at, rows_refl, rows_trans}
use Rattle.tso_cells.specs.declared.interval.Interval.{Interval}
use Rattle.tso_cells.specs.Rows.{AreRowsInside}
use Rattle.tso_cells.proofs.rows.spread_seen.Goals as goal
use Rattle.tso_cells.proofs.rows.spread_seen.Goals.{then-not-has_empty, else-not-has_empty}

pub loop-i-init : goal.loop-i-init
loop-i-init c = record { count = refl; keeps = rows_refl c.args.rows.now }

pub pass_on-requires-clause-range : goal.pass_on-requires-clause-range
pass_on-requires-clause-range c = range_at c.args.steps.now c.loop-i.i _ c.loop-i-test.true c.requires.range

pub loop-i-preserved : goal.loop-i-preserved
loop-i-preserved c =
    let known = c.loop-i.invariant in
    let Q : List (List Interval) → Type 0 = λ rows. record { count : length rows ≡ length c.args.rows.now; keeps : AreRowsInside c.args.rows.now rows } in
    elim c.if-not-has_empty.branch [
      | then-not-has_empty w ↦ subst Q (sym w.rows-is) (record {
        count = w.pass_on.ensures.grown.count ∙ known.count;
        keeps = rows_trans c.args.rows.now c.loop-i.rows w.pass_on.new.rows known.count known.keeps w.pass_on.ensures.grown.keeps;
      })
      | else-not-has_empty w ↦ subst Q (sym w.rows-is) (record { count = known.count; keeps = known.keeps })
    ]
