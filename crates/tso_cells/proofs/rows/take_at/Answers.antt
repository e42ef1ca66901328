use Rattle.std.proofs.Common.{◌∙◌, get_or}
use Rattle.std.proofs.lemmas.Option.{slice_get-get_or}
use Rattle.tso_cells.proofs.RowLemmas.{past_holds, row_grown, set_row_holds, set_rows}
use Rattle.tso_cells.proofs.rows.take_at.Goals as goal

pub returns-in-Some : goal.returns-in-Some
returns-in-Some c =
    let rows = c.args.rows.now in
    let j = c.in-Some.j in
    let took = c.take_up-is_grown.ensures in
    record {
      grown = row_grown c.args.growth rows j _ c.take_up-is_grown.new.row c.take_up-is_grown.result c.if-j-rows.true took.grown;
      holds = set_row_holds rows j c.take_up-is_grown.new.row c.args.other.now c.args.position c.in-Some.is took.holds;
      proper = λ p all.
          let old = all j (get_or rows j _) (slice_get-get_or rows j _ c.if-j-rows.true) in
          set_rows rows j c.take_up-is_grown.new.row all (took.grown.count ∙ old.0, took.proper p.1 old.1);
    }

pub returns-in_default-clause-holds : goal.returns-in_default-clause-holds
returns-in_default-clause-holds c = past_holds c.args.rows.now c.in-Some.j c.args.other.now c.args.position c.in-Some.is c.if-j-rows.false
