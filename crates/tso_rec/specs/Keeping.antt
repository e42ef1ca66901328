-- A record that is kept by parts, of which it shares some with the record before it.
use Rattle.std.specs.Prelude.{List, map}
use Rattle.std.specs.Cmp.Lexicographic.{slice_cmp}
use Rattle.std.specs.Ordering.{nat_cmp, ordering_then}
use Rattle.std.specs.declared.cmp.Ordering.{Ordering}
use Rattle.tso_hist.specs.contracts.call.CallOrd.TheImpl as calls
use Rattle.tso_state.specs.contracts.state.ThreadOrd.TheImpl as threads
use Rattle.tso_state.specs.declared.state.State.{State}
use Rattle.tso_rec.specs.declared.kept.Kept.{Kept}
use Rattle.tso_rec.specs.declared.record.Record.{Record}

abbrev pub record_of : Kept → Record
record_of k = record { state = record { memory = k.memory; threads = k.threads; history = k.history }; end = k.end }

abbrev pub records_of : List Kept → List Record
records_of kept = map record_of kept

-- the derived order of states, part by part
abbrev pub parts_cmp : State → State → Ordering
parts_cmp s t = ordering_then (slice_cmp nat_cmp s.memory t.memory) (ordering_then (slice_cmp threads.cmp-value.it s.threads t.threads) (slice_cmp (slice_cmp calls.cmp-value.it) s.history t.history))
