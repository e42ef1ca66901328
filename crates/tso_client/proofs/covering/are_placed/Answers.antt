use Rattle.std.proofs.Common.{◌≤◌, arith, below_more, length, refl, rules}
use Rattle.tso_client.proofs.Coded.{all_placed}
use Rattle.tso_client.specs.Clients.{IsPlacedAt, place_in}
use Rattle.tso_client.proofs.covering.are_placed.Goals as goal

pub loop-i-preserved : goal.loop-i-preserved
loop-i-preserved c =
    below_more (λ k. IsPlacedAt (place_in c.args.places.now) c.args.small.now c.args.large.now k) c.loop-i.i c.loop-i.invariant (search rules)

pub returns : goal.returns
returns c =
    let end : length c.args.small.now.threads ≤ c.loop-i.i = omega arith in
    ((λ h. all_placed _ _ _ (λ i lt. c.loop-i.invariant i (omega (arith, lt, end)))), λ p. refl)
