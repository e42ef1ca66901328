use Rattle.std.proofs.Common.{◌∙◌, ap, sym}
use Rattle.tsoq.specs.Written.{grain_of_form}
use Rattle.tsoq.proofs.ReportLemmas.{own_grain, spelled_from}
use Rattle.tsoq.proofs.verify.worked_anew.Goals as goal

pub returns : goal.returns
returns g c = spelled_from _ c.args.checked.now.client c.args.worked.now c.in_ok-anew.anew _ (ap grain_of_form (sym c.requires.steps) ∙ own_grain c.args.worked.now.ground) c.in_ok-anew.ensures c.in_ok-taken.ensures
