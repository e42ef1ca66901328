use Rattle.tso_trace.proofs.JudgedLemmas as lemmas
use Rattle.tso_trace.proofs.laws.texts_are_judged_once.Goals as goal

pub returns : goal.returns
returns c = lemmas.texts_are_judged_once c.args.client.now
