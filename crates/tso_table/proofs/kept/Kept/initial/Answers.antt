use Rattle.tso_table.proofs.KeptLemmas.{first_is_kept}
use Rattle.tso_table.proofs.kept.Kept.initial.Goals as goal

pub returns-clause-kept : goal.returns-clause-kept
returns-clause-kept c = first_is_kept c.args.checked.now.client (record { state = c.in_ok-state.state; actors = c.new.result }) c.in_ok-state.ensures.first c.new.ensures
