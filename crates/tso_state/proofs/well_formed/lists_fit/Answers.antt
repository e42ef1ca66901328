use Rattle.std.proofs.Common.{[], arith, below_more, slice_index_or, sym, ◌∙◌}
use Rattle.std.proofs.lemmas.Bool.{false≢true}
use Rattle.tso_state.specs.Fitting.{AreTheThreads}
use Rattle.tso_state.proofs.FitLemmas.{refuted}
use Rattle.tso_state.proofs.well_formed.lists_fit.Goals as goal

pub returns-then-not-are_the_threads : goal.returns-then-not-are_the_threads
returns-then-not-are_the_threads c =
    refuted (λ all. false≢true (sym c.if-not-are_the_threads.true ∙ c.are_the_threads.ensures.1 (rw c.begun_calls.ensures (all c.loop-number.number (omega (arith, c.loop-number-test.true, c.requires))))))

pub loop-number-preserved : goal.loop-number-preserved
loop-number-preserved c =
    below_more (λ k. AreTheThreads c.args.client.now k (slice_index_or c.args.history.now k [])) _ c.loop-number.invariant
    (rw c.begun_calls.ensures at (c.are_the_threads.ensures.0 c.if-not-are_the_threads.false))
