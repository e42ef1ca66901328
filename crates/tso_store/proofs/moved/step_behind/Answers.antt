use Rattle.tso_keys.proofs.Procedures.{running_grows}
use Rattle.tso_keys.specs.Keys.{state_at}
use Rattle.tso_prog.specs.Views.{call_view}
use Rattle.tso_store.proofs.Closing.{still_known}
use Rattle.tso_store.proofs.Movements.{begins_there, begun_kept, grows_on, moved_behind, ok_on}
use Rattle.tso_store.specs.Arriving.{AreOpened}
use Rattle.tso_store.specs.declared.moved.Behind.TheVariants as behinds
use Rattle.tso_store.proofs.moved.step_behind.Goals as goal

pub begin_key-requires-clause-kept : goal.begin_key-requires-clause-kept
begin_key-requires-clause-kept c = (c.args.checked.now.client, c.requires.kept)

pub begin_key-requires-clause-there : goal.begin_key-requires-clause-there
begin_key-requires-clause-there c = rw c.thread.ensures (begins_there c.args.checked.now.client (state_at c.args.parts.now c.args.key.now) c.args.actor (call_view c.args.call) c.requires.begins)

pub step_key-requires-clause-kept : goal.step_key-requires-clause-kept
step_key-requires-clause-kept c =
    begun_kept c.args.checked.now.client c.args.parts.now c.begin_key.new.parts c.args.key.now c.in_ok-opened.opened c.thread.result c.args.call c.args.frame c.requires.kept (c.begin_key.ensures.grows.small c.requires.small) c.in_ok-opened.ensures.begun

pub step_key-requires-clause-known : goal.step_key-requires-clause-known
step_key-requires-clause-known c = still_known c.args.checked.now.client c.args.parts.now c.begin_key.new.parts c.args.known.now c.begin_key.ensures.grows c.requires.known

pub step_key-requires-clause-running : goal.step_key-requires-clause-running
step_key-requires-clause-running c = running_grows c.args.parts.now.histories c.begin_key.new.parts.histories c.args.running.now c.begin_key.ensures.grows.histories c.requires.running

pub returns-clause-moves : goal.returns-clause-moves
returns-clause-moves c =
    let client = c.args.checked.now.client in
    let s = state_at c.args.parts.now c.args.key.now in
    let leads : AreOpened client c.args.own.now s c.thread.result c.args.call c.args.frame behinds.Steps = rw c.thread.ensures c.requires.opened in
    ok_on c.step_key.result
    (λ r is. moved_behind client c.args.own.now c.args.parts.now c.begin_key.new.parts c.args.key.now c.in_ok-opened.opened c.args.actor c.thread.result c.args.call c.args.frame c.requires.begins c.thread.ensures c.in_ok-opened.ensures.begun
    c.step_key.new.parts r (c.begin_key.ensures.grows.small c.requires.small) leads is)
    c.step_key.ensures.step

pub returns-clause-grows : goal.returns-clause-grows
returns-clause-grows c = grows_on c.args.parts.now c.begin_key.new.parts c.step_key.new.parts c.begin_key.ensures.grows c.step_key.ensures.grows

pub returns-in_err-opened-clause-known : goal.returns-in_err-opened-clause-known
returns-in_err-opened-clause-known c = still_known c.args.checked.now.client c.args.parts.now c.begin_key.new.parts c.args.known.now c.begin_key.ensures.grows c.requires.known
