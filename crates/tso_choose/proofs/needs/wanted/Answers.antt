use Rattle.std.proofs.Common.{◌∙◌, ap}
use Rattle.tso_choose.specs.Closures.{has_bit}
use Rattle.tso_choose.proofs.NeedLemmas.{wanted_is}
use Rattle.tso_choose.proofs.needs.wanted.Goals as goal

pub returns : goal.returns
returns g c = λ client on b. wanted_is client (g.S.Viewed.state c.args.state.now) c.args.kind c.args.other c.args.enabled c.pair.result c.has_bit-core.result c.has_bit-buffer.result
    c.is_served-is_served.result on (c.has_bit-core.ensures ∙ ap (has_bit c.args.enabled) c.number_of.ensures) (c.has_bit-buffer.ensures ∙ ap (has_bit c.args.enabled) c.number_of-2.ensures) c.is_served-is_served.ensures c.pair.ensures b
