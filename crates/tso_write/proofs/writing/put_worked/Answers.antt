use Rattle.tso_cert.proofs.WriteLemmas.{on_err}
use Rattle.tso_write.proofs.SpellingLemmas.{worked_ready}
use Rattle.tso_write.proofs.WritingLemmas.{part_of_nothing}
use Rattle.tso_write.specs.Tasks.{uncut}
use Rattle.tso_write.proofs.writing.put_worked.Goals as goal

pub returns-in_err-speller-clause-err : goal.returns-in_err-speller-clause-err
returns-in_err-speller-clause-err g c =
    let w = c.args.worked.now in
    on_err _ (part_of_nothing (uncut c.args.checked.now.client w.ground w.store.states c.args.numbers.now) _)

pub put_tree-requires-clause-ready : goal.put_tree-requires-clause-ready
put_tree-requires-clause-ready g c = λ k within.
    worked_ready c.args.checked.now.client c.args.worked.now c.in_ok-speller.speller c.args.numbers.now c.requires.worked c.requires.rising c.states_differ.ensures c.in_ok-speller.ensures
