use Rattle.std.proofs.KnownBytes.{Appends-trans}
use Rattle.std.proofs.lemmas.Result.{on_err_weaker, on_ok_weaker}
use Rattle.tso_trace.specs.Grammar.{ended, header}
use Rattle.tso_trace.proofs.InsideLemmas.{proper_trace}
use Rattle.tso_trace.proofs.PrintLemmas.{header_broken, lines_broken, on_err}
use Rattle.tso_trace.proofs.trace.Trace.print.Goals as goal

pub returns-clause-proper : goal.returns-clause-proper
returns-clause-proper g c =
    on_ok_weaker c.print_lines.result
    (λ words. proper_trace c.args.self.now.checked.client c.args.self.now.labels c.args.self.now.erring (rw c.as_slice-2.ensures at words))
    c.print_lines.ensures.words

pub returns-clause-text : goal.returns-clause-text
returns-clause-text g c =
    on_ok_weaker c.print_lines.result
    (λ lines. Appends-trans _ _ _ (ended header) _ c.in_ok-write_bytes.ensures.ok (rw (c.as_slice.ensures, c.as_slice-2.ensures) at lines))
    c.print_lines.ensures.text

pub returns-in_err-write_bytes-clause-beginning : goal.returns-in_err-write_bytes-clause-beginning
returns-in_err-write_bytes-clause-beginning g c =
    on_err _ (header_broken c.args.self.now.checked.client.arrays c.args.self.now.labels _ _ c.in_err-write_bytes.ensures.err)

pub returns-clause-beginning : goal.returns-clause-beginning
returns-clause-beginning g c =
    on_err_weaker c.print_lines.result
    (λ broken. lines_broken c.args.self.now.checked.client.arrays c.args.self.now.labels _ _ _ c.in_ok-write_bytes.ensures.ok (rw (c.as_slice.ensures, c.as_slice-2.ensures) at broken))
    c.print_lines.ensures.beginning
