use Rattle.tso_keys.specs.Keys.{state_at}
use Rattle.tso_prog.specs.Views.{call_view}
use Rattle.tso_store.proofs.Closing.{still_known}
use Rattle.tso_store.proofs.Movements.{begins_there, moved_cut, waits_there}
use Rattle.tso_store.proofs.moved.begin_move.Goals as goal

pub returns-in-Waits-clause-moves : goal.returns-in-Waits-clause-moves
returns-in-Waits-clause-moves c =
    waits_there c.args.checked.now.client c.args.own.now (state_at c.args.parts.now c.args.key.now) c.args.actor c.thread-thread.result c.args.call c.in_ok-frame.frame c.requires.begins c.thread-thread.ensures (rw c.in-Waits.is at c.in_ok-frame.ensures)

pub begin_key-requires-clause-kept : goal.begin_key-requires-clause-kept
begin_key-requires-clause-kept c = (c.args.checked.now.client, c.requires.kept)

pub begin_key-requires-clause-there : goal.begin_key-requires-clause-there
begin_key-requires-clause-there c = rw c.thread-thread.ensures (begins_there c.args.checked.now.client (state_at c.args.parts.now c.args.key.now) c.args.actor (call_view c.args.call) c.requires.begins)

pub returns-in_ok-opened-in-Cut-clause-moves : goal.returns-in_ok-opened-in-Cut-clause-moves
returns-in_ok-opened-in-Cut-clause-moves c =
    moved_cut c.args.checked.now.client c.args.own.now c.args.parts.now c.begin_key.new.parts c.args.key.now c.in_ok-opened-in-Cut.opened c.args.actor c.thread-thread.result c.args.call c.in_ok-frame.frame c.requires.begins c.thread-thread.ensures
    c.in_ok-opened-in-Cut.ensures.begun c.requires.kept (rw c.in-Cut.is at c.in_ok-frame.ensures)

pub returns-in_ok-opened-in-Cut-clause-known : goal.returns-in_ok-opened-in-Cut-clause-known
returns-in_ok-opened-in-Cut-clause-known c = still_known c.args.checked.now.client c.args.parts.now c.begin_key.new.parts c.args.known.now c.begin_key.ensures.grows c.requires.known

pub returns-in_err-opened-in-Cut-clause-known : goal.returns-in_err-opened-in-Cut-clause-known
returns-in_err-opened-in-Cut-clause-known c = still_known c.args.checked.now.client c.args.parts.now c.begin_key.new.parts c.args.known.now c.begin_key.ensures.grows c.requires.known

pub step_behind-requires-clause-opened : goal.step_behind-requires-clause-opened
step_behind-requires-clause-opened c = rw (c.thread-thread.ensures, c.in-Steps.is) at c.in_ok-frame.ensures
