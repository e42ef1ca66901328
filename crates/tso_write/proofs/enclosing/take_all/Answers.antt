use Rattle.std.proofs.Common.{◌≡◌, ℕ, Some, arith, below_more, slice_get}
use Rattle.std.proofs.lemmas.Option.{slice_get_within}
use Rattle.tso_cert.proofs.SeenLemmas.{keeps_trans, thread_stays}
use Rattle.tso_cert.specs.Seen.{StateIsSeen}
use Rattle.tso_state.specs.declared.state.State.{State}
use Rattle.tso_write.proofs.enclosing.take_all.Goals as goal

pub loop-number-preserved : goal.loop-number-preserved
loop-number-preserved c =
    let before = c.loop-number.hull in
    let after = c.take_number.new.hull in
    let states = c.args.store.now.states in
    let P : ℕ → Type 0 = λ i. (s : State) → slice_get states i ≡ Some s → StateIsSeen after s in
    record {
      keeps = keeps_trans c.args.hull.now before after c.loop-number.invariant.keeps c.take_number.ensures.keeps;
      seen = λ i s lt at.
          below_more P c.loop-number.number (λ n low t there j. thread_stays before after t j c.take_number.ensures.keeps (c.loop-number.invariant.seen n t low there j))
          c.take_number.ensures.seen i lt s at;
    }

pub returns-clause-seen : goal.returns-clause-seen
returns-clause-seen c = λ k s at.
    let within = slice_get_within c.args.store.now.states k s at in
    c.loop-number.invariant.seen k s (omega (arith, within, c.loop-number-test.false, c.len-number-end.ensures)) at
