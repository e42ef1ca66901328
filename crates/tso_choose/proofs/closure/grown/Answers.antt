use Rattle.std.proofs.lemmas.Nat.Bits.{shr_and_one}
use Rattle.std.proofs.Common.{arith, sym}
use Rattle.tso_choose.proofs.ClosureLemmas.{bit_is, needed_all, round_skipped, round_taken}
use Rattle.tso_choose.proofs.closure.grown.Goals as goal
use Rattle.tso_choose.proofs.closure.grown.Goals.{then-set-k-eq1, else-set-k-eq1}

pub loop-k-preserved : goal.loop-k-preserved
loop-k-preserved c =
    let test = bit_is c.args.set c.loop-k.k _ (sym (shr_and_one c.args.set c.loop-k.k)) in
    elim c.if-set-k-eq1.branch [
      | then-set-k-eq1 w ↦ rw w.all-is (round_taken c.args.needs.now c.args.set c.loop-k.k c.loop-k.all c.loop-k.invariant (test.0 w.if-set-k-eq1.true))
      | else-set-k-eq1 w ↦ rw w.all-is (round_skipped c.args.needs.now c.args.set c.loop-k.k c.loop-k.all c.loop-k.invariant (test.1 w.if-set-k-eq1.false))
    ]

pub returns-clause-needed : goal.returns-clause-needed
returns-clause-needed c = needed_all c.args.needs.now c.args.set c.loop-k.all (λ k lt. c.loop-k.invariant.needed k (omega (arith, lt, c.loop-k-test.false)))
