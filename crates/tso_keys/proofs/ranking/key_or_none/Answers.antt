use Rattle.std.proofs.Common.{◌∙◌, Option, ap}
use Rattle.std.specs.Option.{unwrap_or}
use Rattle.std.proofs.lemmas.Option.{unwrap_or-slice_get}
use Rattle.tso_keys.specs.declared.key.Key.{Key}
use Rattle.tso_keys.specs.declared.key.TheConstants.{NO_KEY}
use Rattle.tso_keys.proofs.ranking.key_or_none.Goals as goal

pub returns : goal.returns
returns c = c.unwrap_or.ensures ∙ ap (λ (o : Option Key). unwrap_or o NO_KEY) c.key_at.ensures ∙ unwrap_or-slice_get c.args.keys.now c.args.number NO_KEY
