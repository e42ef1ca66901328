use Rattle.tso_check.proofs.OneAnswer.{accepted_if_valid, one_answer, refused_for, verified}
use Rattle.tso_check.proofs.deciding.check.Goals as goal

pub returns-clause-headline : goal.returns-clause-headline
returns-clause-headline c = verified c.args.program.now c.args.cert.now c.answer.result c.answer.ensures

pub returns-clause-exact : goal.returns-clause-exact
returns-clause-exact c = λ other is. one_answer c.args.program.now c.args.cert.now c.answer.result other c.answer.ensures is

pub returns-clause-refused : goal.returns-clause-refused
returns-clause-refused c = λ fault is. refused_for c.args.program.now c.args.cert.now c.answer.result fault c.answer.ensures is

pub returns-clause-valid : goal.returns-clause-valid
returns-clause-valid c = λ client denotes valid. accepted_if_valid c.args.program.now c.args.cert.now c.answer.result client c.answer.ensures denotes valid
