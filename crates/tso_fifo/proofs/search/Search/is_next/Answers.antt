use Rattle.std.proofs.Common.{◌≡◌, inl, inr, refl, arith}
use Rattle.std.proofs.lemmas.Bool.{cases_lt, false≢true}
use Rattle.std.proofs.lemmas.Option.{slice_get_within, slice_get-get_or}
use Rattle.tso_fifo.proofs.Next.{next_in, next_out, read_at, told_of}
use Rattle.tso_fifo.specs.Search.{Lets, problem_of}
use Rattle.tso_hist.specs.Views.{history_view}
use Rattle.tso_fifo.proofs.search.Search.is_next.Goals as goal

pub returns-then-not-lets : goal.returns-then-not-lets
returns-then-not-lets c = (
  λ e. absurd (false≢true e),
  λ may. c.if-not-lets.ensures.1 (next_out (problem_of c.args.self.now.queue c.args.self.now.history.now c.args.self.now.candidates.now) c.args.taken.now c.requires.all c.requires.len c.args.next may c.loop-i.i _ _
      (slice_get-get_or c.args.self.now.candidates.now c.loop-i.i _ (omega arith)) (slice_get-get_or c.args.taken.now c.loop-i.i _ (omega (arith, c.requires.len)))),
)

pub loop-i-preserved : goal.loop-i-preserved
loop-i-preserved c = λ k q b lt at flag. elim (cases_lt k c.loop-i.i) [
  | inl before ↦ c.loop-i.invariant k q b before at flag
  | inr now ↦
      let same : c.loop-i.i ≡ k = omega (arith, now, lt) in
      told_of (Lets (history_view c.args.self.now.history.now) c.args.next) _ q _ b (read_at c.args.self.now.candidates.now c.loop-i.i k _ q same at) (read_at c.args.taken.now c.loop-i.i k _ b same flag) (c.if-not-lets.ensures.0 refl)
]

pub returns : goal.returns
returns c = (
  λ e. next_in (problem_of c.args.self.now.queue c.args.self.now.history.now c.args.self.now.candidates.now) c.args.taken.now c.requires.all c.requires.len c.args.next
      (λ j q b here flag. c.loop-i.invariant j q b (omega (arith, slice_get_within c.args.self.now.candidates.now j q here, c.loop-i-test.false)) here flag),
  λ may. refl,
)
