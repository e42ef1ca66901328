use Rattle.std.proofs.Common.{arith}
use Rattle.std.proofs.lemmas.Bool.{false≢true}
use Rattle.tso_client.proofs.Coded.{coded}
use Rattle.tso_client.proofs.covering.covers.Goals as goal

pub returns : goal.returns
returns c = (
  (λ h. absurd (false≢true h)),
  (λ x.
      let (alike, (e, p)) = x in
      let (k, lt, placed) = coded e c.args.small.now c.args.large.now c.args.small.now.few_threads c.args.large.now.few_threads p in
      absurd (c.loop-code.invariant k (omega (arith, lt)) placed)),
)
