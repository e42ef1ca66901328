use Rattle.tso_foot.proofs.NarrowerLemmas.{narrower_foresees_no_more}
use Rattle.tso_foot.proofs.laws.narrower_foresees_no_more.Goals as goal

pub returns : goal.returns
returns c = narrower_foresees_no_more c.args.checked.now.client
