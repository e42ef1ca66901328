use Rattle.std.proofs.Common.{rules, drop, length}
use Rattle.std.proofs.lemmas.Slice.Eq.{starts_is}
use Rattle.tso_client.proofs.covering.is_beginning.Goals as goal

pub returns : goal.returns
returns c =
    let x = starts_is (λ a b. search rules) c.args.of.now c.args.calls.now c.starts_with.result c.starts_with.ensures.value in (
      (λ h. (drop (length c.args.calls.now) c.args.of.now, x.0 h)),
      (λ h. x.1 h.0 h.1),
    )
