use Rattle.std.proofs.Common.{◌≡◌, ◌∙◌, Err, ap, subst, sym}
use Rattle.tso_cert.specs.Certificates.{Fails, front_at}
use Rattle.tso_cert.specs.declared.fault.Fault.TheVariants.{K01, K02}
use Rattle.tso_skim.proofs.TreeLemmas.{behind_front, without_front}
use Rattle.tso_skim.proofs.whole.skim.Goals as goal

pub returns-in-Ok : goal.returns-in-Ok
returns-in-Ok c = c.skim_tree.ensures ∙ sym (behind_front c.args.bytes.now c.in-Ok.basis c.in-Ok.rest.now c.in-Ok.ensures)

pub returns-in-Err-Fault-K01 : goal.returns-in-Err-Fault-K01
returns-in-Err-Fault-K01 c =
    let front = front_at c.args.bytes.now in
    let is : front ≡ Err c.in-Err-Fault-K01.field-0-0 = subst (λ e. Fails e front) c.in-Err-Fault-K01.field-0-is c.in-Err-Fault-K01.ensures in
    sym (without_front c.args.bytes.now K01 (is ∙ ap Err c.in-Err-Fault-K01.field-0-0-is))

pub returns-in-Err-Fault-K02 : goal.returns-in-Err-Fault-K02
returns-in-Err-Fault-K02 c =
    let front = front_at c.args.bytes.now in
    let is : front ≡ Err c.in-Err-Fault-K02.field-0-0 = subst (λ e. Fails e front) c.in-Err-Fault-K02.field-0-is c.in-Err-Fault-K02.ensures in
    sym (without_front c.args.bytes.now K02 (is ∙ ap Err c.in-Err-Fault-K02.field-0-0-is))
