use Rattle.std.proofs.Common.{length, sym, ◌∙◌, arith, Some, ◌≡◌}
use Rattle.std.proofs.lemmas.Bool.{and_from, le-leb}
use Rattle.tso_line.specs.Proper.{is_word}
use Rattle.tso_line.specs.Ranges.{all_within}
use Rattle.tso_line.proofs.Each.{all_within_length, all_within_passes}
use Rattle.tso_line.proofs.reading.values_line.Goals as goal

pub returns-in-Some-clause-proper : goal.returns-in-Some-clause-proper
returns-in-Some-clause-proper c =
    let e : Some c.in-Some.words ≡ all_within c.args.values.now = sym c.in-Some.is ∙ c.in_ok-words.ensures.exact in
    let n = all_within_length c.args.values.now c.in-Some.words e in
    and_from _ _ c.requires.named (and_from _ _ (le-leb 1 (length c.in-Some.words) (omega (arith, n, c.requires.nonempty))) (all_within_passes is_word c.args.values.now c.in-Some.words c.requires.words e))
