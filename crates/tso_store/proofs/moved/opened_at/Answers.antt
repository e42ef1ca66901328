use Rattle.std.proofs.lemmas.Option.{same_Some}
use Rattle.tso_keys.specs.Keys.{state_at}
use Rattle.tso_store.proofs.Movements.{opened_there}
use Rattle.tso_store.proofs.moved.opened_at.Goals as goal

pub returns : goal.returns
returns c =
    let s = state_at c.args.parts.now c.args.key.now in
    opened_there c.args.checked.now.client c.args.own.now s c.in-Some.view c.args.thread c.args.call c.in_ok-frame.frame c.behind_of-behind.result c.buffer_in.result.now
    (same_Some c.in-Some.view s c.in-Some.ensures) c.in_ok-frame.ensures c.buffer_in.ensures c.behind_of-behind.ensures
