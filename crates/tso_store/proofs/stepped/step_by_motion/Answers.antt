use Rattle.std.proofs.Common.{◌≡◌, ◌∙◌, ap, Some}
use Rattle.tso_compact.specs.Motions.{access_of}
use Rattle.tso_compact.specs.Plans.{thread_in}
use Rattle.tso_model.specs.Steps.{word_read}
use Rattle.tso_state.specs.Actors.{thread_of}
use Rattle.tso_state.specs.declared.state.State.{State}
use Rattle.tso_keys.specs.Keys.{state_at}
use Rattle.tso_keys.specs.declared.parts.Parts.{Parts}
use Rattle.tso_store.proofs.Performed.{own_here, planned_fits, planned_thread, stepped}
use Rattle.tso_store.proofs.stepped.step_by_motion.Goals as goal

pub moved_thread-requires-clause-there : goal.moved_thread-requires-clause-there
moved_thread-requires-clause-there c = planned_thread c.args.client.now c.args.parts.now c.args.key.now c.args.actor c.args.own c.args.motion c.requires.kept c.requires.small c.requires.planned c.requires.own

pub moved_thread-requires-clause-fits : goal.moved_thread-requires-clause-fits
moved_thread-requires-clause-fits c = planned_fits c.args.client.now c.args.parts.now c.args.key.now c.args.actor c.args.own c.args.motion c.requires.kept c.requires.small c.requires.planned c.requires.own

pub returns-clause-step : goal.returns-clause-step
returns-clause-step c =
    let new : Parts = record { memories = c.next_memory.new.memories; histories = c.next_history.new.histories; threads = c.moved_thread.new.threads } in
    let s : State = state_at c.args.parts.now c.args.key.now in
    let t = thread_in s (thread_of c.args.actor) in
    let there = own_here c.args.client.now c.args.parts.now c.args.key.now c.args.actor c.args.own c.args.motion c.requires.kept c.requires.small c.requires.planned c.requires.own in
    let word : c.word_at-word.result ≡ word_read s.memory (access_of t c.args.motion) = c.word_at-word.ensures t in
    let mem = c.in_ok-memory.ensures.number ∙ ap Some (c.written_at-entry.ensures t there s.memory word) in
    let hist = rw c.thread.ensures at c.in_ok-history.ensures.number in
    let left = rw word at c.in_ok-number.ensures.number in
    rw (c.with_thread-next.ensures, c.thread-2.ensures) (stepped c.args.client.now c.args.parts.now new c.args.key.now c.args.actor c.args.motion c.args.own c.in_ok-memory.memory c.in_ok-history.history c.in_ok-number.number c.requires.kept c.requires.small c.moved_thread.ensures.extends c.requires.planned c.requires.own mem hist left)
