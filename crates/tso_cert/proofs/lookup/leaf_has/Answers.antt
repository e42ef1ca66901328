use Rattle.std.proofs.Common.{◌+◌, ◌-◌, ◌/◌, refl, arith}
use Rattle.std.specs.declared.cmp.Ordering.TheVariants.{Less, Greater}
use Rattle.tso_rec.specs.Records.{states_of}
use Rattle.tso_cert.proofs.LookupLemmas.{go_left, go_right, is_nowhere, is_there, ordered_at}
use Rattle.tso_cert.proofs.lookup.leaf_has.Goals as goal

pub loop-low-preserved-in-Less : goal.loop-low-preserved-in-Less
loop-low-preserved-in-Less c =
    let at = ordered_at (states_of c.args.records.now) c.args.state.now (c.loop-low.low + (c.loop-low.high - c.loop-low.low) / 2) Less c.in-Less.ensures.order in
    go_right (states_of c.args.records.now) c.args.state.now at.0 c.loop-low.low c.loop-low.high (c.loop-low.low + (c.loop-low.high - c.loop-low.low) / 2) c.requires c.loop-low.invariant (omega (arith, c.loop-low-test.true)) at.1 at.2

pub loop-low-preserved : goal.loop-low-preserved
loop-low-preserved c =
    let at = ordered_at (states_of c.args.records.now) c.args.state.now (c.loop-low.low + (c.loop-low.high - c.loop-low.low) / 2) Greater c.in-Greater.ensures.order in
    go_left (states_of c.args.records.now) c.args.state.now at.0 c.loop-low.low c.loop-low.high (c.loop-low.low + (c.loop-low.high - c.loop-low.low) / 2) c.requires c.loop-low.invariant (omega (arith, c.loop-low-test.true)) at.1 at.2

pub returns-in-Equal : goal.returns-in-Equal
returns-in-Equal c = (λ h. is_there (states_of c.args.records.now) c.args.state.now (c.loop-low.low + (c.loop-low.high - c.loop-low.low) / 2) (c.in-Equal.ensures.same.0 refl), λ h. refl)

pub returns : goal.returns
returns c = (λ h. absurd cc, λ h. absurd (is_nowhere (states_of c.args.records.now) c.args.state.now c.loop-low.low c.loop-low.high c.loop-low.invariant (omega (arith, c.loop-low-test.false)) h))
