use Rattle.std.proofs.Common.{◌∙◌, arith, subst, sym}
use Rattle.std.proofs.lemmas.Option.{same_Some}
use Rattle.tso_choose.specs.Choosing.{IsChoice}
use Rattle.tso_search.proofs.LoneLemmas.{lone_chosen}
use Rattle.tso_store.specs.Lone.{IsLoneAt}
use Rattle.tso_search.proofs.looking.chosen_at.Goals as goal

pub only-requires : goal.only-requires
only-requires c = let at : IsLoneAt c.args.store.now.client c.args.store.now.states c.args.number c.in-Some.lone = c.in-Some.ensures in omega (arith, at.few)

pub returns-in-Some : goal.returns-in-Some
returns-in-Some c =
    lone_chosen c.args.store.now.client c.args.checked.now.client c.args.table.now c.args.store.now.states c.args.number c.in-Some.lone c.only.result c.requires.client c.in-Some.ensures c.only.ensures

pub chosen-requires : goal.chosen-requires
chosen-requires c = (c.requires.met c.args.number c.in-Some-view.view (sym c.in-Some-view.ensures.state)).plausible.well_formed

pub returns : goal.returns
returns c = λ s at. subst (λ x. IsChoice c.args.checked.now.client c.args.table.now x c.chosen.result) (same_Some _ _ (c.in-Some-view.ensures.state ∙ at)) c.chosen.ensures
