use Rattle.std.proofs.Common.{◌≡◌, ◌∙◌, arith}
use Rattle.tso_compact.proofs.PerformLemmas.{AreParts, performed-view, thread_in-at}
use Rattle.tso_compact.specs.Motions.{access_of}
use Rattle.tso_model.specs.Steps.{word_read}
use Rattle.tso_compact.proofs.stepping.performed.Goals as goal

pub returns : goal.returns
returns c =
    let s = c.args.state.now in
    let i = c.args.number in
    let m = c.args.motion in
    let t = c.index-as_slice-number.result in
    let word : c.word_read-word.result ≡ word_read s.memory (access_of t m) = rw c.as_slice-2.ensures at (c.word_read-word.ensures t) in
    let parts : AreParts s i m t c.in_ok-memory.memory c.in_ok-after.after c.in_ok-threads.threads c.in_ok-history.history = record {
      inside = omega (arith, c.requires.there, c.requires.lists.lists);
      there = thread_in-at s i t c.requires.there (rw c.as_slice.ensures at c.index-as_slice-number.is);
      memory_is = c.in_ok-memory.ensures ∙ c.written.ensures s.memory word;
      thread_is = rw word at c.in_ok-after.ensures;
      threads_are = c.in_ok-threads.ensures;
      history_is = c.in_ok-history.ensures;
    } in
    performed-view s i m t c.in_ok-memory.memory c.in_ok-after.after c.in_ok-threads.threads c.in_ok-history.history parts
