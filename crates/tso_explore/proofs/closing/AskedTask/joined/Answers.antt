use Rattle.std.proofs.Common.{◌∙◌, sym}
use Rattle.std.proofs.lemmas.Bool.{false≢true}
use Rattle.tso_explore.proofs.AskedLemmas.{both_worked}
use Rattle.tso_explore.specs.Asked.{asked}
use Rattle.tso_explore.proofs.closing.AskedTask.joined.Goals as goal

pub returns-then-first : goal.returns-then-first
returns-then-first c = λ is.
    let p = c.args.self.now in
    let l = c.args._left.now in
    let r = c.args._right.now in
    both_worked (asked p.checked.now.client p.table.now p.store.now.states p.from p.to) (asked l.checked.now.client l.table.now l.store.now.states l.from l.to) (asked r.checked.now.client r.table.now r.store.now.states r.from r.to)
    c.requires.halves (c.requires.first c.if-first.true) (c.requires.second is)

pub returns-else-first : goal.returns-else-first
returns-else-first c = λ is. absurd (false≢true (sym c.if-first.false ∙ is))
