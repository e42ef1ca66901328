use Rattle.std.proofs.Common.{◌≡◌, ◌+◌, arith, subst}
use Rattle.tso_check.proofs.StoredLemmas.{stored_whole}
use Rattle.tso_check.proofs.deciding.decide_stored_with.Goals as goal
use Rattle.tso_prog.specs.declared.client.Client.{Client}
use Rattle.tso_rec.specs.Bases.{by_steps}
use Rattle.tso_scan.specs.Scanned.{shape_count}
use Rattle.tso_keys.specs.Forms.{AreForms}

pub returns-in-Some : goal.returns-in-Some
returns-in-Some g c = rw c.rejected.ensures (rw c.in-Some.is at c.in_ok-code.ensures)

pub returns-in_ok-found-in-None : goal.returns-in_ok-found-in-None
returns-in_ok-found-in-None g c = λ tree is.
    let count = shape_count c.args.scanned.now.shape in
    let all : 0 + count ≡ count = omega arith in
    let whole = (rw c.in-None.is at c.in_ok-code.ensures) tree is in
    c.verdict_of.ensures c.args.checked.now.client (by_steps c.args.scanned.now.table) tree whole (stored_whole c.args.checked.now.client c.args.scanned.now tree (0 + count) c.in_ok-found-in-None.field-0 is all c.in_ok-found-in-None.ensures)

pub judge_with-found-requires-clause-ready : goal.judge_with-found-requires-clause-ready
judge_with-found-requires-clause-ready g c =
    let s = c.requires.stored in
    let count = s.count in
    let long = s.long in
    let most = s.few in
    λ k within. (s, subst (λ (client : Client). AreForms client c.args.scanned.now.store.states c.in_ok-forms-in-None.forms) s.client c.in_ok-forms-in-None.ensures, omega (arith, count, long, most))
