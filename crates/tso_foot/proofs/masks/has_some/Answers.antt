use Rattle.std.proofs.Common.{◌≡◌, ◌∙◌, ◌==◌, ap, sym}
use Rattle.std.proofs.lemmas.Bool.{le-ltb}
use Rattle.std.proofs.lemmas.Nat.Bits.{bit_at_above}
use Rattle.tso_foot.specs.Masks.{has_some}
use Rattle.tso_foot.proofs.masks.has_some.Goals as goal

pub returns-else-k-lt16 : goal.returns-else-k-lt16
returns-else-k-lt16 c =
    let k = c.in-Some.k in
    let above = bit_at_above c.args.mask 16 k c.ranges.mask.fits c.if-k-lt16.false in
    le-ltb k 16 c.if-k-lt16.false ∙ sym (ap (has_some c.args.mask) c.in-Some.is ∙ ap (λ n. n == 1) above)
