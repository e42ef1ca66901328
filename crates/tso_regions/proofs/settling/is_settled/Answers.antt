use Rattle.std.proofs.Common.{◌∙◌, ℕ, ◌+◌, ap, arith, map, subst, sym}
use Rattle.std.proofs.lemmas.Bool.{eqb-true}
use Rattle.tso_regions.proofs.SettlingLemmas.{owners_known, settled_held, settled_own, settled_whole}
use Rattle.tso_regions.proofs.settling.is_settled.Goals as goal
use Rattle.tso_regions.proofs.settling.is_settled.Goals.{in-Own, in-Held}
use Rattle.tso_regions.specs.Gathering.{IsSettledBelow}
use Rattle.tso_regions.specs.Owners.{owner_of}

pub look_at-requires : goal.look_at-requires
look_at-requires g c =
    owners_known c.args.count c.keyed_parts.result.0.now c.keyed_parts.result.1.now c.as_slice.result.now c.args.region.now.states
    (c.as_slice.ensures.value ∙ c.in_ok-owners.ensures ∙ ap (map (owner_of c.args.count)) c.values.ensures) (c.keyed_parts.ensures.states ∙ c.lent.ensures.states)

pub overflow_add-before : goal.overflow_add-before
overflow_add-before g c =
    let few = c.loop-number.invariant.few in
    let less = c.loop-number-test.true in
    let (small, same) = c.in-Ok.ensures in
    omega (arith, few, less, small, same)

pub loop-number-preserved : goal.loop-number-preserved
loop-number-preserved g c =
    let few = c.loop-number.invariant.few in
    let stands = λ (p : ℕ). IsSettledBelow c.args.count c.args.regions.now c.args.place c.args.region.now (c.loop-number.number + 1) p in
    elim c.match-look_at.branch [
      | in-Own w ↦ record {
        below = subst stands (sym w.before-is) (settled_own c.args.count c.args.regions.now c.args.place c.args.region.now c.loop-number.number c.loop-number.before c.loop-number.invariant.below (c.look_at.ensures.own w.in-Own.is));
        few = (let more = w.before-is in omega (arith, more, few));
      }
      | in-Held w ↦ record {
        below = subst stands (sym w.before-is) (settled_held c.args.count c.args.regions.now c.args.place c.args.region.now c.loop-number.number c.loop-number.before c.loop-number.invariant.below (c.look_at.ensures.held w.in-Held.is));
        few = (let same = w.before-is in omega (arith, same, few));
      }
    ]

pub returns : goal.returns
returns g c = λ same.
    let (small, len) = c.in-Ok.ensures in
    settled_whole c.args.count c.args.regions.now c.args.place c.args.region.now c.loop-number.number c.loop-number.before c.loop-number.invariant.below
    (omega (arith, small, len, c.len.ensures, c.loop-number-test.false)) (omega (arith, small, len, c.len.ensures, c.loop-number.auto.number-end)) (eqb-true c.loop-number.before c.own_count.result same ∙ c.own_count.ensures)
