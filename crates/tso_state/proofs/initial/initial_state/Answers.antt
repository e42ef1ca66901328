use Rattle.std.proofs.Common.{◌∙◌, ap, sym}
use Rattle.tso_machine.specs.Places.{first_memory}
use Rattle.tso_machine.specs.Programs.{calls_of}
use Rattle.tso_state.specs.Views.{threads_view}
use Rattle.tso_state.proofs.InitialLemmas.{first_is_well_formed, idle_threads_view}
use Rattle.tso_state.proofs.initial.initial_state.Goals as goal

is_first : goal.returns-clause-first
is_first c =
    let count = sym c.thread_count-count.ensures.calls in
    let memory = c.in_ok-memory.ensures ∙ ap first_memory c.as_slice.ensures in
    let all = c.in_ok-threads.ensures in
    let lists = c.in_ok-history.ensures.value in
    let threads = (λ i. threads_view (lists i) (all i)) ∙ idle_threads_view c.thread_count-count.result (calls_of c.args.checked.now.client) count in
    let history = c.in_ok-history.ensures.first (calls_of c.args.checked.now.client) count in
    λ i. record { memory = memory i; threads = threads i; history = history i }

pub returns-clause-first : goal.returns-clause-first
returns-clause-first c = is_first c

pub returns-clause-well_formed : goal.returns-clause-well_formed
returns-clause-well_formed c = first_is_well_formed c.args.checked.now.client _ (is_first c)
