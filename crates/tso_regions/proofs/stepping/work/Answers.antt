use Rattle.tso_regions.proofs.RegionLemmas.{done_with}
use Rattle.tso_search.proofs.SearchLemmas.{done_stays}
use Rattle.tso_search.specs.declared.ground.Ground.TheVariants.{Steps}
use Rattle.tso_regions.proofs.stepping.work.Goals as goal

pub returns-in_err-follow_all-clause-done : goal.returns-in_err-follow_all-clause-done
returns-in_err-follow_all-clause-done c = done_stays c.args.checked.now.client (Steps c.args.table.now) c.args.store.now.states c.follow_all.new.store.states c.args.marks.now c.follow_all.ensures.stays c.requires.done

pub returns-in_err-mark-clause-done : goal.returns-in_err-mark-clause-done
returns-in_err-mark-clause-done c = rw c.in_err-mark.ensures.err (done_stays c.args.checked.now.client (Steps c.args.table.now) c.args.store.now.states c.follow_all.new.store.states c.args.marks.now c.follow_all.ensures.stays c.requires.done)

pub returns-clause-done : goal.returns-clause-done
returns-clause-done c =
    done_with c.args.checked.now.client c.args.table.now c.args.store.now.states c.follow_all.new.store.states c.args.marks.now c.mark.new.self c.args.number c.chosen_at-set.result
    c.requires.sound c.requires.done c.follow_all.ensures.stays c.requires.there c.chosen_at-set.ensures c.in_ok-follow_all.ensures.followed c.in_ok-mark.ensures.marked
