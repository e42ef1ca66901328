use Rattle.tso_write.proofs.SpellingLemmas.{spelled_alone}
use Rattle.tso_write.specs.Tasks.{uncut}
use Rattle.tso_write.proofs.spelling.spelled.Goals as goal

pub returns : goal.returns
returns c =
    spelled_alone (uncut c.args.checked.now.client c.args.ground.now c.args.store.now.states c.args.numbers.now) _ _ c.in_ok-out.ensures.items c.in_ok-put_tree.ensures
