use Rattle.std.proofs.lemmas.Bool.{and_from}
use Rattle.tso_line.proofs.Each.{zeros_proper}
use Rattle.tso_line.proofs.reading.array_line.Goals as goal

pub returns-in_ok-words-in-Within-clause-proper : goal.returns-in_ok-words-in-Within-clause-proper
returns-in_ok-words-in-Within-clause-proper c = and_from _ _ c.requires (zeros_proper c.in-Within.len c.in_ok-words-in-Within.words c.in_ok-words-in-Within.ensures c.if-len-ge1.true)
