use Rattle.tso_cert.specs.Trees as trees
use Rattle.std.proofs.Common.{◌∙◌, ap, subst, sym}
use Rattle.tso_foot.specs.declared.table.Table.{Table}
use Rattle.tso_request.specs.declared.form.Form.TheVariants.{Arrays}
use Rattle.tsoq.specs.Written.{IsWritable, grain_of_form}
use Rattle.tsoq.proofs.ReportLemmas.{good_of_tree, own_grain, steps_table}
use Rattle.tsoq.proofs.verify.certified_told.Goals as goal

pub certified_last-requires-clause-writable : goal.certified_last-requires-clause-writable
certified_last-requires-clause-writable g c = subst (λ (t : Table). IsWritable Arrays c.args.checked.now.client t (trees.tree_of c.in_ok-cert.cert)) (sym c.table-table.ensures) (steps_table c.args.checked.now.client c.args.worked.now c.requires.steps (trees.tree_of c.in_ok-cert.cert) c.in_ok-cert.ensures)

pub certified_last-requires-clause-few : goal.certified_last-requires-clause-few
certified_last-requires-clause-few g c = c.in_ok-cert.ensures.good.within.1

pub returns-clause-good : goal.returns-clause-good
returns-clause-good g c = good_of_tree _ c.args.checked.now.client c.args.worked.now (trees.tree_of c.in_ok-cert.cert) _ _ c.in_ok-cert.ensures c.in_ok-made.ensures.records c.in_ok-made.ensures.taken

pub certified_last-requires-clause-steps : goal.certified_last-requires-clause-steps
certified_last-requires-clause-steps g c = sym c.requires.grain ∙ sym (own_grain c.args.worked.now.ground) ∙ ap grain_of_form c.requires.steps
