use Rattle.tso_keys.proofs.Risen.{rows_are}
use Rattle.tso_keys.proofs.standings.standings_of.Goals as goal

pub returns : goal.returns
returns c =
    rows_are c.requires.0 c.args.parts.now c.args.keys.now c.in_ok-memories.memories.items c.in_ok-threads.threads.items c.in_ok-histories.histories.items c.requires.1
    (record { memories = c.in_ok-memories.ensures; threads = c.in_ok-threads.ensures; histories = c.in_ok-histories.ensures })
