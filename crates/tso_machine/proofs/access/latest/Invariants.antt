use Rattle.std.proofs.Common.{◌≡◌, map, drop}
use Rattle.tso_machine.specs.Machines.{entry_view}
use Rattle.tso_model.specs.States.{latest}
use Rattle.tso_machine.proofs.access.latest.Given as goal

abbrev pub invariant-loop-entry : goal.invariant-loop-entry
invariant-loop-entry l = latest (map entry_view (drop l.entry-index l.entries)) l.place l.seen ≡ latest (map entry_view l.entries) l.place l.word
