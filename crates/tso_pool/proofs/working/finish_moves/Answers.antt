use Rattle.std.proofs.Common.{◌≡◌, ◌∙◌, ap, arith, length, List, subst}
use Rattle.tso_choose.specs.declared.choice.Choice.{Choice}
use Rattle.tso_pool.proofs.EndLemmas.{chosen_finished}
use Rattle.tso_pool.specs.Numbering.{AreNumbered}
use Rattle.tso_pool.proofs.working.finish_moves.Goals as goal

pub returns-clause-finished : goal.returns-clause-finished
returns-clause-finished g c =
    let client = c.args.team.now.checked.now.client in
    let s = c.args.kept.now.state in
    let same : c.as_slice.result.now ≡ c.args.choices = c.as_slice.ensures in
    chosen_finished client c.args.team.now.table.now c.args.own s c.args.choices c.in_ok-moves.moves c.requires.kept.plausible.well_formed c.requires.chosen c.requires.some
    (subst (λ (xs : List Choice). AreNumbered client c.args.own s xs c.in_ok-moves.moves) same c.in_ok-moves.ensures.numbered)
    (c.in_ok-moves.ensures.all ∙ ap (λ (xs : List Choice). length xs) same)

pub returns-clause-counted : goal.returns-clause-counted
returns-clause-counted g c = let counted = c.in_ok-moves.ensures.counted in let all = c.in_ok-moves.ensures.all in omega (arith, counted, all)
