use Rattle.std.proofs.Common.{arith, refl}
use Rattle.std.proofs.lemmas.Bool.{false≢true}
use Rattle.tso_choose.specs.Choices.{actors_of}
use Rattle.tso_judge.proofs.EndLemmas.{rise_all, rise_more, rise_none, rising_at}
use Rattle.tso_judge.proofs.ends.is_rising.Goals as goal

pub loop-k-init : goal.loop-k-init
loop-k-init c = rise_none (actors_of c.args.choices.now)

pub returns-then-not-is_below : goal.returns-then-not-is_below
returns-then-not-is_below c = (λ e. absurd (false≢true e), λ rising. c.if-not-is_below.ensures.1 (rising_at c.args.choices.now c.loop-k.k _ _ (omega arith) (omega arith) rising))

pub loop-k-preserved : goal.loop-k-preserved
loop-k-preserved c = rise_more c.args.choices.now c.loop-k.k _ _ (omega arith) (omega arith) c.loop-k.invariant (c.if-not-is_below.ensures.0 refl)

pub returns : goal.returns
returns c = (λ e. rise_all c.args.choices.now c.loop-k.k (omega arith) c.loop-k.invariant, λ r. refl)
