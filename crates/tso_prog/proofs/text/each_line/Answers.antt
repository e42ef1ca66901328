use Rattle.std.proofs.lemmas.Result.{err_from_is_err_and}
use Rattle.tso_prog.specs.Content.{content}
use Rattle.tso_prog.specs.Start.{start}
use Rattle.tso_prog.specs.Program.{read_from, lines_of}
use Rattle.tso_prog.proofs.Lines.{line_more, line_stop}
use Rattle.tso_prog.proofs.text.each_line.Goals as goal

pub returns-in_err-add_line-clause-exact : goal.returns-in_err-add_line-clause-exact
returns-in_err-add_line-clause-exact c =
    let p = err_from_is_err_and c.from_residual.result c.from_residual.ensures.1 in
    rw (p.1, p.2) (line_stop c.in_err-add_line.field-0.0 c.args.source.now c.loop-line.rest.now c.in-Some.line.now c.in-Some.after.now (content c.loop-line.draft) (read_from start (lines_of c.args.source.now c.args.tokens.now)) c.in-Some.ensures.some.0 c.in_err-add_line.ensures.exact c.loop-line.invariant.so_far)

pub loop-line-preserved : goal.loop-line-preserved
loop-line-preserved c = record {
  limited = c.in_ok-add_line.ensures.limited;
  printable = c.in_ok-add_line.ensures.printable;
  so_far = line_more c.args.source.now c.loop-line.rest.now c.in-Some.line.now c.in-Some.after.now (content c.loop-line.draft) (content c.add_line.new.draft) (read_from start (lines_of c.args.source.now c.args.tokens.now)) c.in-Some.ensures.some.0 c.in_ok-add_line.ensures.exact c.loop-line.invariant.so_far;
}
