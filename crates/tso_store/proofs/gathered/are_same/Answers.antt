use Rattle.std.proofs.Common.{◌∙◌, sym}
use Rattle.tso_store.proofs.gathered.are_same.Goals as goal

pub returns : goal.returns
returns g c = (λ e. (g.met.T.Exact.exact c.args.a.now c.args.b.now).0 (sym c.eq.ensures ∙ e), λ e. c.eq.ensures ∙ (g.met.T.Exact.exact c.args.a.now c.args.b.now).1 e)
