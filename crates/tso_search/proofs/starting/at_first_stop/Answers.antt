use Rattle.tso_search.proofs.SearchLemmas.{first_has_one_stop}
use Rattle.tso_search.proofs.starting.at_first_stop.Goals as goal

pub arrive_state-added-requires : goal.arrive_state-added-requires
arrive_state-added-requires c = record {
  one_stop = first_has_one_stop c.args.checked.now.client c.new-store.result.client c.args.own.now c.args.table.now c.in_ok-state.state c.new-store.ensures.client c.requires c.in_ok-state.ensures.first;
}
