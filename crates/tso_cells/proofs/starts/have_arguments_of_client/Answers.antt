use Rattle.std.proofs.Common.{◌∙◌, sym}
use Rattle.std.proofs.lemmas.Bool.{false≢true}
use Rattle.tso_cells.proofs.TestLemmas.{arguments_of_prologue, arguments_of_threads, arguments_there}
use Rattle.tso_flow.specs.Calls.{as_thread}
use Rattle.tso_cells.proofs.starts.have_arguments_of_client.Goals as goal

pub returns-then-have_arguments_of_threads : goal.returns-then-have_arguments_of_threads
returns-then-have_arguments_of_threads c = (
  λ yes. arguments_there c.args.registers.now c.args.client.now.threads _ c.args.client.now.prologue _ c.as_slice.ensures c.as_slice-then-have_arguments_of_threads.ensures
      (c.have_arguments_of_threads.ensures.0 c.if-have_arguments_of_threads.true) (c.have_arguments.ensures.0 yes),
  λ h. c.have_arguments.ensures.1 (arguments_of_prologue c.args.registers.now c.args.client.now.threads c.args.client.now.prologue _ c.as_slice-then-have_arguments_of_threads.ensures h),
)

pub returns-else-have_arguments_of_threads : goal.returns-else-have_arguments_of_threads
returns-else-have_arguments_of_threads c = (
  λ yes. absurd (false≢true (sym c.if-have_arguments_of_threads.false ∙ yes)),
  λ h. c.have_arguments_of_threads.ensures.1 (arguments_of_threads c.args.registers.now c.args.client.now.threads _ (as_thread c.args.client.now.prologue) c.as_slice.ensures h),
)
