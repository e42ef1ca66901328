use Rattle.std.proofs.Common.{◌∙◌, refl}
use Rattle.std.proofs.KnownBytes.{Appends-nil}
use Rattle.std.proofs.lemmas.Bool.{and_from}
use Rattle.std.proofs.lemmas.List.{take_all}
use Rattle.std.proofs.lemmas.List.Folds.{list_all_more}
use Rattle.tso_trace.specs.Parts.{has_words}
use Rattle.tso_trace.proofs.PrintLemmas.{line_broken, on_err, newline_broken, printed_more, unspelled}
use Rattle.tso_trace.proofs.spelling.print_lines.Goals as goal

pub loop-label-init : goal.loop-label-init
loop-label-init g c = record { words = refl; printed = Appends-nil _ }

pub loop-label-preserved : goal.loop-label-preserved
loop-label-preserved g c =
    let spelled = c.as_bytes.ensures.value ∙ c.in_ok-line.ensures.spelled in
    record {
      words = list_all_more has_words c.args.labels.now c.loop-label.label-index _ c.loop-label-test.true ∙ and_from _ _ c.loop-label.invariant.words c.in_ok-line.ensures.words;
      printed = printed_more c.args.arrays.now c.args.labels.now c.loop-label.label-index _ c.as_bytes.result.now _ _ _ _ c.loop-label-test.true spelled
          c.loop-label.invariant.printed c.in_ok-write_bytes.ensures.ok c.in_ok-write_bytes-2.ensures.ok;
    }

pub returns-in_err-line-clause-beginning : goal.returns-in_err-line-clause-beginning
returns-in_err-line-clause-beginning g c = on_err _ (unspelled c.args.arrays.now c.args.labels.now c.loop-label.label-index _ _ c.loop-label.invariant.printed)

pub returns-in_err-write_bytes-clause-beginning : goal.returns-in_err-write_bytes-clause-beginning
returns-in_err-write_bytes-clause-beginning g c =
    on_err _ (line_broken c.args.arrays.now c.args.labels.now c.loop-label.label-index _ _ _ c.loop-label-test.true c.loop-label.invariant.printed _ c.as_bytes.result.now
    (c.as_bytes.ensures.value ∙ c.in_ok-line.ensures.spelled) c.in_err-write_bytes.ensures.err)

pub returns-in_err-write_bytes-2-clause-beginning : goal.returns-in_err-write_bytes-2-clause-beginning
returns-in_err-write_bytes-2-clause-beginning g c =
    on_err _ (newline_broken c.args.arrays.now c.args.labels.now c.loop-label.label-index _ _ _ c.loop-label-test.true c.loop-label.invariant.printed _ c.as_bytes.result.now
    (c.as_bytes.ensures.value ∙ c.in_ok-line.ensures.spelled) _ c.in_ok-write_bytes.ensures.ok c.in_err-write_bytes-2.ensures.err)

pub returns : goal.returns
returns g c =
    let past = c.loop-label-test.false in
    record {
      words = rw take_all at c.loop-label.invariant.words;
      text = rw take_all at c.loop-label.invariant.printed;
      beginning = tt;
    }
