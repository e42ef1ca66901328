use Rattle.tso_move.proofs.OpeningLemmas.{ok_sighted}
use Rattle.tso_move.proofs.parts.opened_frame.Goals as goal

pub returns : goal.returns
returns g c =
    let client = c.args.checked.now.client in
    let sight = c.sight_of-sight.result in
    let there = c.sight_of-sight.ensures in
    ok_sighted client c.args.own.now (g.S.Viewed.state c.args.state.now) c.args.thread c.args.call sight there.own there.written there.buffer there.memory c.opening.result c.opening.ensures
