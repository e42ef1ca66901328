use Rattle.std.proofs.Common.{◌≡◌, ◌∙◌, ◌+◌, ◌<◌, List, ap, sym, subst}
use Rattle.tso_foot.proofs.LeastLemmas.{growing_on, joined_on, less_each, not_grown}
use Rattle.tso_foot.specs.Least.{AreJoined, IsGrowing, room}
use Rattle.tso_foot.specs.declared.masks.Masks.{Masks}
use Rattle.tso_foot.proofs.least.spread.Goals as goal
use Rattle.tso_foot.proofs.least.spread.Goals.{then-grow, else-grow}

pub loop-i-preserved : goal.loop-i-preserved
loop-i-preserved c =
    let known = c.loop-i.invariant in
    let steps = c.args.steps.now in
    let growing : IsGrowing c.args.arrays steps c.grow.new.items = subst (IsGrowing c.args.arrays steps) (sym c.grow.ensures.set) (growing_on c.args.arrays steps c.loop-i.items c.loop-i.i _ c.requires.below c.loop-i-test.true known.growing) in
    elim c.if-grow.branch [
      | then-grow w ↦ record {
        growing = growing;
        new = λ g. less_each c.loop-i.is_grown _ _ _ (c.grow.ensures.new w.if-grow.true) known.new (λ e. ap room (known.old e));
        old = λ g. absurd (cc (w.is_grown-is, g));
        joined = λ g. absurd (cc (w.is_grown-is, g));
      }
      | else-grow w ↦
          let own = c.grow.ensures.same w.if-grow.false in
          let same : c.grow.new.items ≡ c.loop-i.items = c.grow.ensures.set ∙ not_grown c.loop-i.items c.loop-i.i _ own in
          let Fewer : List Masks → Type 0 = λ m. room m < room c.args.items.now in
          record {
            growing = growing;
            new = λ g. subst Fewer (sym same) (known.new (sym w.is_grown-is ∙ g));
            old = λ g. same ∙ known.old (sym w.is_grown-is ∙ g);
            joined = λ g. subst (λ m. AreJoined steps m (c.loop-i.i + 1)) (sym same) (joined_on steps c.loop-i.items c.loop-i.i _ c.loop-i-test.true (known.joined (sym w.is_grown-is ∙ g)) own);
          }
    ]
