use Rattle.std.proofs.Common.{◌∙◌, sym}
use Rattle.tso_write.proofs.CuttingLemmas.{end_of_state, searched_well_formed, searched_worked}
use Rattle.tso_write.proofs.LoneEnds.{lone_end_at}
use Rattle.tso_search.specs.declared.ground.Ground.TheVariants.{Steps}
use Rattle.tso_write.proofs.cutting.stepped_end.Goals as goal

pub returns-in-Some : goal.returns-in-Some
returns-in-Some c =
    lone_end_at c.args.store.now.client c.args.checked.now.client c.args.table.now c.args.store.now.states c.args.number c.thread_count.result c.in-Some.lone c.in_ok-end.end c.requires.client c.requires.searched c.thread_count.ensures.calls
    c.in-Some.ensures c.in_ok-end.ensures

pub end_of-requires-clause-well_formed : goal.end_of-requires-clause-well_formed
end_of-requires-clause-well_formed c = searched_well_formed c.args.checked.now.client (Steps c.args.table.now) c.args.store.now.states c.args.number c.in-Some-view.view c.requires.searched (sym c.view.ensures.state ∙ c.in-Some-view.is)

pub end_of-requires-clause-explained : goal.end_of-requires-clause-explained
end_of-requires-clause-explained c = (searched_worked c.args.checked.now.client (Steps c.args.table.now) c.args.store.now.states c.args.number c.in-Some-view.view c.requires.searched (sym c.view.ensures.state ∙ c.in-Some-view.is)).explained

pub returns : goal.returns
returns c = end_of_state c.args.checked.now.client (Steps c.args.table.now) c.args.store.now.states c.args.number c.in-Some-view.view c.in_ok-end-in-Some-view.end (sym c.view.ensures.state ∙ c.in-Some-view.is) c.in_ok-end-in-Some-view.ensures
