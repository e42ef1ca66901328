use Rattle.std.proofs.Common.{◌≡◌, ◌∙◌, ap, Some}
use Rattle.tso_compact.specs.Motions.{access_of}
use Rattle.tso_compact.specs.Plans.{thread_in}
use Rattle.tso_model.specs.Steps.{word_read}
use Rattle.tso_state.specs.Actors.{thread_of}
use Rattle.tso_state.specs.declared.state.State.{State}
use Rattle.tso_keys.specs.Keys.{state_at}
use Rattle.tso_store.proofs.Absences.{no_history, no_memory, no_moved}
use Rattle.tso_store.proofs.Performed.{own_here, planned_fits, stepped, thread_at}
use Rattle.tso_store.proofs.sought.find_by_motion.Goals as goal

pub returns-in_err-memory : goal.returns-in_err-memory
returns-in_err-memory c =
    let s : State = state_at c.args.parts.now c.args.key.now in
    let t = thread_in s (thread_of c.args.actor) in
    let there = own_here c.args.client.now c.args.parts.now c.args.key.now c.args.actor c.args.own c.args.motion c.requires.kept c.requires.small c.requires.planned c.requires.own in
    let written = c.written_at-entry.ensures t there s.memory (c.word_at-word.ensures t) in
    rw c.from_residual.ensures (no_memory c.args.client.now c.args.parts.now c.args.key.now c.args.actor c.args.motion c.requires.planned (rw written at c.in_err-memory.ensures))

pub returns-in_err-history : goal.returns-in_err-history
returns-in_err-history c =
    let sought = rw c.thread-thread.ensures at c.in_err-history.ensures in
    rw c.from_residual-in_err-history.ensures (no_history c.args.client.now c.args.parts.now c.args.key.now c.args.actor c.args.motion sought.history c.requires.planned sought.is sought.sought)

pub find_moved-requires-clause-fits : goal.find_moved-requires-clause-fits
find_moved-requires-clause-fits c = planned_fits c.args.client.now c.args.parts.now c.args.key.now c.args.actor c.args.own c.args.motion c.requires.kept c.requires.small c.requires.planned c.requires.own

pub returns-in_err-number : goal.returns-in_err-number
returns-in_err-number c =
    let s : State = state_at c.args.parts.now c.args.key.now in
    let t = thread_in s (thread_of c.args.actor) in
    let there = own_here c.args.client.now c.args.parts.now c.args.key.now c.args.actor c.args.own c.args.motion c.requires.kept c.requires.small c.requires.planned c.requires.own in
    let word : c.word_at-word.result ≡ word_read s.memory (access_of t c.args.motion) = c.word_at-word.ensures t in
    let sought = rw c.thread-thread.ensures at c.in_ok-history.ensures in
    rw c.from_residual-in_err-number.ensures (no_moved c.args.client.now c.args.parts.now c.args.key.now c.args.actor c.args.motion sought.history c.requires.kept c.requires.planned sought.is (thread_at s (thread_of c.args.actor) c.requires.planned.there) (rw word at (c.in_err-number.ensures t there)))

pub returns : goal.returns
returns c =
    let s : State = state_at c.args.parts.now c.args.key.now in
    let t = thread_in s (thread_of c.args.actor) in
    let there = own_here c.args.client.now c.args.parts.now c.args.key.now c.args.actor c.args.own c.args.motion c.requires.kept c.requires.small c.requires.planned c.requires.own in
    let word : c.word_at-word.result ≡ word_read s.memory (access_of t c.args.motion) = c.word_at-word.ensures t in
    let mem = c.in_ok-memory.ensures ∙ ap Some (c.written_at-entry.ensures t there s.memory word) in
    let sought = rw c.thread-thread.ensures at c.in_ok-history.ensures in
    let left = rw word at c.in_ok-number.ensures in
    rw (c.with_thread-next.ensures, c.thread-thread.ensures) (stepped c.args.client.now c.args.parts.now c.args.parts.now c.args.key.now c.args.actor c.args.motion c.args.own c.in_ok-memory.memory c.in_ok-history.history c.in_ok-number.number c.requires.kept c.requires.small (λ i x e. e) c.requires.planned c.requires.own mem
    (record { history = sought.history; at = sought.sought; is = sought.is }) left)
