use Rattle.std.proofs.Common.{sym, ◌∙◌, ap, slice_get}
use Rattle.tso_store.proofs.Performed.{no_number}
use Rattle.tso_store.proofs.sought.find_step.Goals as goal

pub returns-in_default : goal.returns-in_default
returns-in_default c =
    let e = ap (slice_get c.args.key.now.threads) (sym c.thread.ensures) ∙ sym c.own_number.ensures ∙ c.in_default.is in
    no_number c.args.client.now c.args.parts.now c.args.key.now c.args.actor c.requires.kept c.requires.small e
