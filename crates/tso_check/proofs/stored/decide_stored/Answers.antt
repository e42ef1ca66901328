use Rattle.std.proofs.Common.{subst}
use Rattle.tso_check.proofs.StoredLemmas.{stored_whole}
use Rattle.tso_prog.specs.declared.client.Client.{Client}
use Rattle.tso_rec.specs.Bases.{by_steps}
use Rattle.tso_keys.specs.Forms.{AreForms}
use Rattle.tso_check.proofs.stored.decide_stored.Goals as goal

pub returns-in-Some : goal.returns-in-Some
returns-in-Some c = rw c.rejected.ensures (rw c.in-Some.is at c.in_ok-code.ensures)

pub returns-in_ok-found-in-None : goal.returns-in_ok-found-in-None
returns-in_ok-found-in-None c = λ tree is.
    let whole = (rw c.in-None.is at c.in_ok-code.ensures) tree is in
    c.verdict_of.ensures c.args.checked.now.client (by_steps c.args.scanned.now.table) tree whole (stored_whole c.args.checked.now.client c.args.scanned.now tree c.len-count.result c.in_ok-found-in-None.field-0 is c.len-count.ensures c.in_ok-found-in-None.ensures)

pub judge_numbers-found-requires-clause-forms : goal.judge_numbers-found-requires-clause-forms
judge_numbers-found-requires-clause-forms c = subst (λ (client : Client). AreForms client c.args.scanned.now.store.states c.in_ok-forms-in-None.forms) c.requires.client c.in_ok-forms-in-None.ensures
