use Rattle.tso_search.proofs.LoneLemmas.{only_core}
use Rattle.tso_search.proofs.looking.only.Goals as goal

pub returns : goal.returns
returns c = only_core c.args.thread c.requires
