use Rattle.std.proofs.Common.{◌≡◌, false, Some, inl, inr, refl, sym, ap, ◌∙◌, arith}
use Rattle.std.proofs.lemmas.Bool.{cases_lt, false≢true}
use Rattle.std.proofs.lemmas.Option.{slice_get_within, slice_get-get_or}
use Rattle.tso_fifo.proofs.Next.{none_by, read_at, whole_in, whole_out}
use Rattle.tso_fifo.specs.Search.{problem_of}
use Rattle.tso_fifo.specs.declared.candidate.Candidate.{Candidate}
use Rattle.tso_fifo.proofs.search.Search.has_all_taken.Goals as goal

pub returns-then-is_missing : goal.returns-then-is_missing
returns-then-is_missing c =
    let (down, some) = c.if-is_missing.ensures.0 refl in (
      λ e. absurd (false≢true e),
      λ whole. absurd (whole_out (problem_of c.args.self.now.queue c.args.self.now.history.now c.args.self.now.candidates.now) c.args.taken.now c.requires.all c.requires.len whole c.loop-i.i _
          (slice_get-get_or c.args.self.now.candidates.now c.loop-i.i _ (omega arith)) (slice_get-get_or c.args.taken.now c.loop-i.i _ (omega (arith, c.requires.len)) ∙ ap Some down) some),
    )

pub loop-i-preserved : goal.loop-i-preserved
loop-i-preserved c = λ k q lt at down. elim (cases_lt k c.loop-i.i) [
  | inl before ↦ c.loop-i.invariant k q before at down
  | inr now ↦
      let same : c.loop-i.i ≡ k = omega (arith, now, lt) in
      let is = read_at c.args.self.now.candidates.now c.loop-i.i k _ q same at in
      none_by q.answer (λ some. false≢true (c.if-is_missing.ensures.1 (read_at c.args.taken.now c.loop-i.i k _ false same down, λ none. some (ap (λ (x : Candidate). x.answer) (sym is) ∙ none))))
]

pub returns : goal.returns
returns c = (
  λ e. whole_in (problem_of c.args.self.now.queue c.args.self.now.history.now c.args.self.now.candidates.now) c.args.taken.now c.requires.all c.requires.len
      (λ j q here down. c.loop-i.invariant j q (omega (arith, slice_get_within c.args.self.now.candidates.now j q here, c.loop-i-test.false)) here down),
  λ whole. refl,
)
