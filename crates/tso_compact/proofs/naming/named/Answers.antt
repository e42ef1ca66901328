use Rattle.std.proofs.Common.{◌≡◌, IfOk, subst, sym}
use Rattle.tso_compact.proofs.PerformLemmas.{thread_in-at}
use Rattle.tso_compact.specs.Motions.{access_of, labels_of_motion}
use Rattle.tso_compact.specs.Plans.{thread_in}
use Rattle.tso_model.specs.Steps.{word_read}
use Rattle.tso_state.specs.declared.state.Thread.{Thread}
use Rattle.tso_compact.proofs.naming.named.Goals as goal

pub returns : goal.returns
returns c =
    let s = c.args.state.now in
    let i = c.args.number in
    let m = c.args.motion in
    let t = c.index-as_slice-number.result in
    let there : thread_in s i ≡ t = thread_in-at s i t c.requires (rw c.as_slice.ensures at c.index-as_slice-number.is) in
    let word : c.word_read-word.result ≡ word_read s.memory (access_of t m) = rw c.as_slice-2.ensures at (c.word_read-word.ensures t) in
    let Q : Thread → Type 0 = λ u. IfOk c.labels_of_motion.result (λ ls. ls.items ≡ labels_of_motion (word_read s.memory (access_of u m)) i u m) in
    subst Q (sym there) (rw word at c.labels_of_motion.ensures)
