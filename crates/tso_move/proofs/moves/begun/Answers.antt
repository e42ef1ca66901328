use Rattle.tso_move.proofs.BeginLemmas.{begun_lists, begun_view}
use Rattle.tso_move.specs.Begun.{AreBegun}
use Rattle.tso_move.proofs.moves.begun.Goals as goal

pub returns : goal.returns
returns c =
    let s = c.args.state.now in
    let x : AreBegun s c.args.number c.args.kind c.args.frame c.in_ok-memory.memory c.in_ok-threads.threads c.in_ok-history.history = record {
      inside = c.requires.there;
      lists = c.requires.lists.lists;
      memory_is = c.in_ok-memory.ensures;
      threads_are = c.in_ok-threads.ensures;
      history_is = c.in_ok-history.ensures;
    } in
    record {
      lists = record { lists = begun_lists s c.args.number c.args.kind c.args.frame c.in_ok-memory.memory c.in_ok-threads.threads c.in_ok-history.history x };
      is = begun_view s c.args.number c.args.kind c.args.frame c.in_ok-memory.memory c.in_ok-threads.threads c.in_ok-history.history x;
    }
