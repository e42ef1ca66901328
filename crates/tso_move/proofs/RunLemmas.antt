-- Runs of free actors' moves, from state to state.
use Rattle.std.proofs.Common.{◌<◌}
use Rattle.tso_foot.specs.declared.table.ArrayTable.{ArrayTable}
use Rattle.tso_foot.specs.declared.table.Table.{Table}
use Rattle.tso_move.proofs.CostLemmas.{moves_cost}
use Rattle.tso_move.specs.Cost.{cost}
use Rattle.tso_move.specs.Runs.{Goes, IsNext, IsRun, LeadsTo, Stops, StopsAt}
use Rattle.tso_prog.specs.declared.client.Client.{Client}
use Rattle.tso_state.specs.declared.state.State.{State}

pub next_costs : (c : Client) (own : ArrayTable) (t : Table) (s s' : State) → IsNext c own t s s' → cost c s' < cost c s
next_costs c own t s s' next = moves_cost c own s s' next.actor next.well_formed next.move

pub leads_on : (c : Client) (own : ArrayTable) (t : Table) (first s s' : State) → LeadsTo c own t first s → IsNext c own t s s' → LeadsTo c own t first s'
leads_on c own t first s s' leads next r run = leads r (Goes s s' r next.actor next.well_formed next.free next.move run)

pub stops_there : (c : Client) (own : ArrayTable) (t : Table) (first s : State) → LeadsTo c own t first s → StopsAt c own t s → IsRun c own t first s
stops_there c own t first s leads stops = leads s (Stops s stops)
