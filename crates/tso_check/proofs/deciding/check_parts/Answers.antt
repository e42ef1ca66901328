use Rattle.tso_check.proofs.OneAnswer.{accepted_if_valid, one_answer, refused_for, verified}
use Rattle.tso_check.proofs.deciding.check_parts.Goals as goal
use Rattle.tso_scan.specs.Parts.{whole_of}

pub returns-clause-headline : goal.returns-clause-headline
returns-clause-headline g c = verified c.args.program.now (whole_of c.args.parts.now) c.answer_parts.result c.answer_parts.ensures

pub returns-clause-exact : goal.returns-clause-exact
returns-clause-exact g c = λ other is. one_answer c.args.program.now (whole_of c.args.parts.now) c.answer_parts.result other c.answer_parts.ensures is

pub returns-clause-refused : goal.returns-clause-refused
returns-clause-refused g c = λ fault is. refused_for c.args.program.now (whole_of c.args.parts.now) c.answer_parts.result fault c.answer_parts.ensures is

pub returns-clause-valid : goal.returns-clause-valid
returns-clause-valid g c = λ client denotes valid. accepted_if_valid c.args.program.now (whole_of c.args.parts.now) c.answer_parts.result client c.answer_parts.ensures denotes valid
