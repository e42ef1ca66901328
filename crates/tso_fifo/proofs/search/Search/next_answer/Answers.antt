use Rattle.std.proofs.Common.{ℕ, List, option_map, slice_get, ap, ◌∙◌}
use Rattle.std.proofs.lemmas.Bool.{false≢true}
use Rattle.std.proofs.lemmas.Option.{none-some}
use Rattle.tso_fifo.proofs.Completing.{likely_is, may_be}
use Rattle.tso_fifo.specs.Search.{likely_answer, problem_of}
use Rattle.tso_prog.specs.Views.{answer_view}
use Rattle.tso_fifo.proofs.search.Search.next_answer.Goals as goal

pub returns-in_err-answer-clause-found : goal.returns-in_err-answer-clause-found
returns-in_err-answer-clause-found c = λ i e rest here thread number useful all.
    let s = problem_of c.args.self.now.queue c.args.self.now.history.now c.args.self.now.candidates.now in
    let likely = likely_is s c.args.at.now e rest all i c.args.next here thread number c.requires.all useful in
    let front = c.copied-front.ensures ∙ c.first.ensures.value ∙ ap (λ (xs : List ℕ). slice_get xs 0) c.as_slice-items.ensures in
    absurd (none-some e.answer (ap (option_map answer_view) (c.in_err-answer.ensures ∙ ap (likely_answer c.args.next.answer c.args.next.kind) front) ∙ likely))

pub returns-then-not-is_next-clause-found : goal.returns-then-not-is_next-clause-found
returns-then-not-is_next-clause-found c = λ i e rest here thread number useful all.
    let s = problem_of c.args.self.now.queue c.args.self.now.history.now c.args.self.now.candidates.now in
    absurd (false≢true (c.if-not-is_next.ensures.1 (rw c.as_slice.ensures (may_be s c.args.at.now e rest all i c.args.next here thread number))))
