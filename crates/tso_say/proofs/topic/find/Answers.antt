use Rattle.tso_say.proofs.Words.{found_by_word}
use Rattle.tso_say.proofs.topic.find.Goals as goal

pub returns-clause-each : goal.returns-clause-each
returns-clause-each c = λ t same. found_by_word c.args.text.now t c.topic_named.result c.topic_named.ensures.exact same
