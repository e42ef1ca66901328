use Rattle.std.proofs.Common.{subst, sym}
use Rattle.tsoq.specs.Written.{IsTableFor}
use Rattle.tsoq.proofs.ReportLemmas.{own_grain, own_table, spelled_from}
use Rattle.tsoq.proofs.verify.worked_searched.Goals as goal

pub returns : goal.returns
returns g c = spelled_from _ c.args.checked.now.client c.args.worked.now _ _ (own_grain c.args.worked.now.ground) (subst (IsTableFor _ c.args.checked.now.client c.args.worked.now) (sym c.table-table.ensures) (own_table c.args.checked.now.client c.args.worked.now)) c.in_ok-taken.ensures
