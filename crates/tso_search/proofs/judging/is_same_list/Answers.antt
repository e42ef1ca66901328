use lib.Pointwise.{pointwise_decides}
use Rattle.std.proofs.Common.{◌∙◌, sym}
use Rattle.tso_hist.specs.contracts.exact.CallExact.TheImpl.Laws.{exact-law}
use Rattle.tso_search.proofs.judging.is_same_list.Goals as goal

pub returns : goal.returns
returns c =
    let (same, back) = pointwise_decides exact-law c.args.a.now c.args.b.now in
    (λ is. same (sym c.eq.ensures ∙ is), λ e. c.eq.ensures ∙ back e)
