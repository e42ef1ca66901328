use Rattle.std.proofs.Common.{◌≡◌, ◌∙◌, ℕ, Some, arith, below_more, slice_get, subst, sym}
use Rattle.std.proofs.lemmas.List.{length-map}
use Rattle.std.proofs.lemmas.Option.{same_Some, slice_get_within}
use Rattle.tso_cert.proofs.SeenLemmas.{keeps_trans, thread_stays}
use Rattle.tso_cert.specs.Seen.{StateIsSeen}
use Rattle.tso_rec.specs.Records.{states_of}
use Rattle.tso_rec.specs.declared.record.Record.{Record}
use Rattle.tso_state.specs.declared.state.State.{State}
use Rattle.tso_cert.proofs.intervals.take_leaf.Goals as goal

pub loop-k-preserved : goal.loop-k-preserved
loop-k-preserved c =
    let before = c.loop-k.hull in
    let after = c.take_state.new.hull in
    let states = states_of c.args.records.now in
    let P : ℕ → Type 0 = λ i. (s : State) → slice_get states i ≡ Some s → StateIsSeen after s in
    record {
      keeps = keeps_trans c.args.hull.now before after c.loop-k.invariant.keeps c.take_state.ensures.keeps;
      seen = λ i s lt at.
          below_more P c.loop-k.k (λ n low t there j. thread_stays before after t j c.take_state.ensures.keeps (c.loop-k.invariant.seen n t low there j))
          (λ t there. subst (StateIsSeen after) (same_Some c.in_ok-state.state t (sym c.in_ok-state.ensures ∙ there)) c.take_state.ensures.seen) i lt s at;
    }

pub returns-clause-seen : goal.returns-clause-seen
returns-clause-seen c = λ k s at.
    let records = c.args.records.now in
    let within = slice_get_within (states_of records) k s at in
    c.loop-k.invariant.seen k s (omega (arith, within, length-map records (λ (r : Record). r.state), c.loop-k-test.false, c.len-k-end.ensures)) at
