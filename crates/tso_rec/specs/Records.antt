-- A leaf is its list of records.
use Rattle.std.specs.Prelude.{List, map}
use Rattle.tso_rec.specs.declared.record.End.{End}
use Rattle.tso_rec.specs.declared.record.Record.{Record}
use Rattle.tso_state.specs.declared.state.State.{State}

abbrev pub states_of : List Record → List State
states_of records = map (λ r. r.state) records

abbrev pub ends_of : List Record → List End
ends_of records = map (λ r. r.end) records
