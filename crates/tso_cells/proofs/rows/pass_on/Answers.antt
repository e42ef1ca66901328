use Rattle.std.proofs.Common.{List, ℕ, Option, get_or, sym, subst}
use Rattle.std.proofs.lemmas.Option.{slice_get-get_or}
use Rattle.tso_flow.specs.Paths.{next_of, target_of}
use Rattle.tso_cells.specs.declared.interval.Interval.{Interval}
use Rattle.std.proofs.lemmas.Bool.{or_parts}
use Rattle.tso_cells.proofs.RowLemmas.{HoldsAt, moved_row, passed_still, then_rows_grown}
use Rattle.tso_cells.specs.Rows.{IsRow}
use Rattle.tso_cells.proofs.rows.pass_on.Goals as goal

pub returns : goal.returns
returns c =
    let rows = c.args.rows.now in
    let mid = c.take_at-is_grown.new.rows in
    let new = c.take_at-is_grown-2.new.rows in
    let one = c.take_at-is_grown.ensures in
    let other = c.take_at-is_grown-2.ensures in
    record {
      grown = then_rows_grown c.args.growth rows mid new c.take_at-is_grown.result c.take_at-is_grown-2.result one.grown other.grown;
      proper = λ all.
          let own = all c.args.i (get_or rows c.args.i _) (slice_get-get_or rows c.args.i _ c.requires.inside) in
          let row = subst (λ (x : List Interval). IsRow x) (sym c.moved-other.ensures) (moved_row (get_or rows c.args.i _) c.args.step c.requires.range own) in
          other.proper row (one.proper row all);
      passed = λ none.
          let both = or_parts c.take_at-is_grown.result c.take_at-is_grown-2.result none in
          let next = subst (λ (o : Option ℕ). HoldsAt o c.moved-other.result mid) c.next_position.ensures one.holds in
          let target = subst (λ (o : Option ℕ). HoldsAt o c.moved-other.result new) c.jump_target.ensures other.holds in
          passed_still c.args.step c.args.i _ rows mid new (one.grown.same both.0) (other.grown.same both.1) (subst (λ (x : List Interval). HoldsAt (next_of c.args.step c.args.i) x mid) c.moved-other.ensures next)
          (subst (λ (x : List Interval). HoldsAt (target_of c.args.step) x new) c.moved-other.ensures target);
    }
