use Rattle.tso_foot.proofs.WithinLemmas.{within_is_sound}
use Rattle.tso_foot.proofs.laws.within_is_sound.Goals as goal

pub returns : goal.returns
returns c = within_is_sound c.args.checked.now.client
