use Rattle.std.proofs.Common.{arith, sym}
use Rattle.std.proofs.lemmas.Nat.Bits.{shr_and_one}
use Rattle.tso_choose.proofs.ClosureLemmas.{best_skipped, best_taken, bit_is, no_best, only_best}
use Rattle.tso_choose.proofs.closure.smallest.Goals as goal
use Rattle.tso_choose.proofs.closure.smallest.Goals.{then-numbers-k-eq1, else-numbers-k-eq1}

pub loop-k-preserved : goal.loop-k-preserved
loop-k-preserved c =
    let needs = c.args.needs.now in
    let numbers = c.args.numbers in
    let k = c.loop-k.k in
    let test = bit_is numbers k _ (sym (shr_and_one numbers k)) in
    elim c.if-numbers-k-eq1.branch [
      | then-numbers-k-eq1 w ↦ rw (w.best-is, w.smaller.ensures) (best_taken needs numbers k w.closure-set.result c.loop-k.best c.loop-k.invariant (test.0 w.if-numbers-k-eq1.true) w.closure-set.ensures)
      | else-numbers-k-eq1 w ↦ rw w.best-is (best_skipped needs numbers k c.loop-k.best c.loop-k.invariant (test.1 w.if-numbers-k-eq1.false))
    ]

pub returns-clause-some : goal.returns-clause-some
returns-clause-some c = only_best c.args.needs.now c.args.numbers c.loop-k.k c.loop-k.best c.loop-k.invariant (λ j h. let lt = c.requires.within j h in omega (arith, lt, c.loop-k-test.false))

pub returns-clause-none : goal.returns-clause-none
returns-clause-none c = no_best c.args.needs.now c.args.numbers c.loop-k.k c.loop-k.best c.loop-k.invariant (λ j h. let lt = c.requires.within j h in omega (arith, lt, c.loop-k-test.false))
