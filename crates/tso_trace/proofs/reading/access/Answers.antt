use Rattle.std.proofs.Common.{Some, ap, sym, refl, ◌∙◌}
use Rattle.std.proofs.lemmas.Option.{none-some}
use Rattle.tso_trace.proofs.AccessLemmas.{access_is, access_of, same_split}
use Rattle.tso_trace.proofs.reading.access.Goals as goal

pub returns-in_err-name : goal.returns-in_err-name
returns-in_err-name c =
    rw c.from_residual.ensures
    (λ place word proper is.
    let a = access_of c.args.client.now place word proper in
    c.in_err-name.ensures a.name a.index word a.named a.small a.fits (is ∙ a.text))

pub returns-in_err-place : goal.returns-in_err-place
returns-in_err-place c =
    let split = c.in_ok-name.ensures in
    rw c.from_residual-in_err-place.ensures
    (λ place word proper is.
    let a = access_of c.args.client.now place word proper in
    let same = same_split c.args.client.now a.name c.in_ok-name.name.now a.index c.in_ok-name.index word c.in_ok-name.word a.named split.0 a.small split.1 (sym a.text ∙ sym is ∙ split.3) in
    none-some place ((c.in_err-place.ensures place).1 (a.cell ∙ ap Some same.0)))

pub returns : goal.returns
returns c =
    let split = c.in_ok-name.ensures in
    access_is c.args.client.now c.in_ok-name.name.now c.in_ok-name.index c.in_ok-name.word c.in_ok-place.place c.args.text.now split.2 split.3 ((c.in_ok-place.ensures c.in_ok-place.place).0 refl)
