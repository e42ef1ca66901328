use Rattle.std.proofs.Common.{◌∙◌, ap, subst, sym}
use Rattle.tso_request.specs.declared.form.Form.TheVariants.{Arrays, Crossings, Intervals}
use Rattle.tsoq.proofs.ReportLemmas.{by_arrays, by_crossings}
use Rattle.tsoq.proofs.verify.worked_in_form.Goals as goal

pub returns-in-Intervals : goal.returns-in-Intervals
returns-in-Intervals g c = rw c.in-Intervals.is c.worked_anew.ensures
