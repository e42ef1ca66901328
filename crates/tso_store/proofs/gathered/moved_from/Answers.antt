use Rattle.std.proofs.Common.{◌∙◌, ap}
use Rattle.tso_keys.specs.Moving.{moved_key}
use Rattle.tso_store.proofs.gathered.moved_from.Goals as goal

pub returns : goal.returns
returns c = c.moved_key.ensures ∙ ap (moved_key c.args.numbers.now) c.key_or_none.ensures
