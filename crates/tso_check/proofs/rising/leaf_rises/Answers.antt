use Rattle.std.proofs.Common.{arith, refl}
use Rattle.std.proofs.lemmas.Bool.{false≢true}
use Rattle.std.proofs.lemmas.List.{length-map}
use Rattle.tso_check.proofs.RisingLemmas.{going_all, going_more, going_not}
use Rattle.tso_check.proofs.rising.leaf_rises.Goals as goal
use Rattle.tso_rec.specs.Records.{states_of}
use Rattle.tso_rec.specs.declared.record.Record.{Record}

pub returns-then-not-may_follow : goal.returns-then-not-may_follow
returns-then-not-may_follow c =
    going_not c.args.last (states_of c.args.records.now) c.loop-k.k c.loop-k.last c.in_ok-state.state c.loop-k.invariant c.in_ok-state.ensures (λ g. absurd (false≢true (c.if-not-may_follow.ensures.1 g)))

pub loop-k-preserved : goal.loop-k-preserved
loop-k-preserved c = going_more c.args.last (states_of c.args.records.now) c.loop-k.k c.loop-k.last c.in_ok-state.state c.loop-k.invariant c.in_ok-state.ensures (c.if-not-may_follow.ensures.0 refl)

pub returns : goal.returns
returns c =
    let long = length-map c.args.records.now (λ (r : Record). r.state) in
    going_all c.args.last (states_of c.args.records.now) c.loop-k.k c.loop-k.last c.loop-k.invariant (omega (arith, c.loop-k-test.false, c.len-k-end.ensures, long))
