use Rattle.std.proofs.Common.{List, sym, subst}
use Rattle.tso_cells.specs.declared.interval.Interval.{Interval}
use Rattle.tso_cells.proofs.HullLemmas.{keeps_pop, keeps_push, keeps_words}
use Rattle.tso_cells.specs.Hulls.{KeepsWords}
use Rattle.tso_cells.proofs.hulls.Hull.take_in.Goals as goal

pub returns-in-Push-clause-keeps : goal.returns-in-Push-clause-keeps
returns-in-Push-clause-keeps c =
    let hull = c.args.self.now in
    keeps_push hull c.take_words.new.rows (subst (λ (rows : List (List Interval)). KeepsWords hull.push rows) (sym c.take_words.ensures.is) (keeps_words hull.push c.args.position c.args.registers.now))

pub returns-in-Pop-clause-keeps : goal.returns-in-Pop-clause-keeps
returns-in-Pop-clause-keeps c =
    let hull = c.args.self.now in
    keeps_pop hull c.take_words-in-Pop.new.rows (subst (λ (rows : List (List Interval)). KeepsWords hull.pop rows) (sym c.take_words-in-Pop.ensures.is) (keeps_words hull.pop c.args.position c.args.registers.now))
