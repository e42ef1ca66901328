use Rattle.std.proofs.Common.{◌≡◌, ◌∙◌, ◌+◌, ap, Some, slice_get, length, arith}
use Rattle.tso_pool.proofs.EndLemmas.{chosen_has, item_at}
use Rattle.tso_pool.proofs.NumberLemmas.{count_on, numbered_on}
use Rattle.tso_pool.proofs.working.follow_all.Goals as goal

pub follow-requires-clause-step : goal.follow-requires-clause-step
follow-requires-clause-step g c =
    chosen_has c.args.team.now.checked.now.client c.args.team.now.table.now c.args.kept.now.state c.args.choices.now c.loop-choice.choice-index c.choice-item.result c.requires.kept.plausible.well_formed c.requires.chosen c.loop-choice-test.true c.choice-item.is

pub loop-choice-preserved : goal.loop-choice-preserved
loop-choice-preserved g c =
    let client = c.args.team.now.checked.now.client in
    let v = c.loop-choice.invariant in
    let moved = c.in_ok-follow.ensures.moved in
    let here : slice_get c.args.choices.now (length c.loop-choice.moves.numbers) ≡ Some c.choice-item.result =
    ap (slice_get c.args.choices.now) v.count ∙ item_at c.args.choices.now c.loop-choice.choice-index c.choice-item.result c.loop-choice-test.true c.choice-item.is in
    record {
      parts = c.follow.ensures.parts ∙ v.parts;
      place = c.follow.ensures.place ∙ v.place;
      numbered = numbered_on client c.args.own c.args.kept.now.state c.args.choices.now c.loop-choice.moves c.follow.new.moves c.choice-item.result here v.numbered moved;
      counted = let one = c.in_ok-follow.ensures.counted in let before = v.counted in omega (arith, one, before);
      count = count_on client c.args.own c.args.kept.now.state c.loop-choice.moves c.follow.new.moves c.choice-item.result moved ∙ ap (λ n. n + 1) v.count;
    }
