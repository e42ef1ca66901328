use Rattle.std.proofs.Common.{sym, ◌∙◌}
use Rattle.std.proofs.lemmas.List.Folds.{list_any_at}
use Rattle.std.proofs.lemmas.Map.Views.{Contains-from_any}
use Rattle.tso_fifo.specs.contracts.memory.KeyExact.TheImpl.Laws.{exact-law as key_exact}
use Rattle.tso_fifo.proofs.memory.is_known.Goals as goal

pub returns : goal.returns
returns c = (
  λ e. Contains-from_any (λ x y. (key_exact x y).0) c.args.key.now c.args.keys.now.keys (sym c.contains.ensures ∙ e),
  λ (i, lt, at). c.contains.ensures ∙ list_any_at _ c.args.keys.now.keys i c.args.key.now lt ((key_exact _ _).1 (sym at)),
)
