use Rattle.std.proofs.Common.{◌+◌, ◌-◌, ◌/◌, arith}
use Rattle.tso_explore.proofs.AskedLemmas.{asked_in_two}
use Rattle.tso_explore.proofs.closing.AskedTask.halves.Goals as goal

pub returns : goal.returns
returns c =
    let p = c.args.self.now in
    let middle = p.from + (p.to - p.from) / 2 in
    asked_in_two p.store.now.client p.checked.now.client p.table.now p.store.now.states p.from middle p.to (omega arith) (omega (arith, c.requires.ordered)) c.requires
