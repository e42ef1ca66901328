use Rattle.tso_prog.specs.Content.{content}
use Rattle.tso_prog.specs.Start.{start}
use Rattle.tso_prog.specs.Program.{lines_of}
use Rattle.tso_prog.proofs.First.{reads_lines}
use Rattle.tso_prog.proofs.Only.{refused_first}
use Rattle.tso_prog.proofs.text.read_lines.Goals as goal

pub returns-clause-first : goal.returns-clause-first
returns-clause-first c = reads_lines content c.each_line.result start (lines_of c.args.source.now c.args.tokens.now) c.each_line.ensures.exact

pub returns-clause-only : goal.returns-clause-only
returns-clause-only c = λ f first.
    let lines = lines_of c.args.source.now c.args.tokens.now in
    refused_first content c.each_line.result start lines f (reads_lines content c.each_line.result start lines c.each_line.ensures.exact) first
