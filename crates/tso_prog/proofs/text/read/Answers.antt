use Rattle.tso_prog.specs.Client.{client}
use Rattle.tso_prog.proofs.Contents.{parts_of}
use Rattle.tso_prog.proofs.Refusals.{answers_first, refuses_first}
use Rattle.tso_prog.proofs.text.read.Goals as goal

pub returns-clause-parts : goal.returns-clause-parts
returns-clause-parts c = parts_of client c.args.source.now c.read_all.result c.read_all.ensures.exact

pub returns-clause-first : goal.returns-clause-first
returns-clause-first c = answers_first client c.args.source.now c.read_all.result c.read_all.ensures.exact

pub returns-clause-only : goal.returns-clause-only
returns-clause-only c = refuses_first client c.args.source.now c.read_all.result c.read_all.ensures.exact
