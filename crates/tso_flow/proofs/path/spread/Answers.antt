use Rattle.std.proofs.Common.{◌+◌, ◌<◌, Bool, List, ap, sym, subst, ◌∙◌}
use Rattle.std.proofs.lemmas.Option.{slice_get-get_or}
use Rattle.tso_flow.specs.Marks.{unmarked, IsClosed}
use Rattle.tso_flow.proofs.Marking.{all_reached, closed_more, less}
use Rattle.tso_flow.proofs.path.spread.Goals as goal
use Rattle.tso_flow.proofs.path.spread.Goals.{then-advance, else-advance}

pub loop-i-preserved : goal.loop-i-preserved
loop-i-preserved c =
    let at = c.advance.ensures in
    let known = c.loop-i.invariant in
    let step = slice_get-get_or c.args.steps.now c.loop-i.i _ c.loop-i-test.true in
    elim c.if-advance.branch [
      | then-advance w ↦ record {
        same = c.advance.auto.marks ∙ known.same;
        keeps = λ k m. at.keeps k (known.keeps k m);
        reached = all_reached c.args.tracked c.args.steps.now c.loop-i.marks c.advance.new.marks c.loop-i.i _ step known.reached at.only;
        new = λ g. less c.loop-i.grown _ _ _ (at.new w.if-advance.true) known.new (λ e. ap unmarked (known.old e));
        old = λ g. absurd (cc (w.grown-is, g));
        closed = λ g. absurd (cc (w.grown-is, g));
      }
      | else-advance w ↦
          let same = at.old w.if-advance.false in
          let Closed : List Bool → Type 0 = λ (m : List Bool). IsClosed c.args.tracked c.args.steps.now m (c.loop-i.i + 1) in
          let Fewer : List Bool → Type 0 = λ (m : List Bool). unmarked m < unmarked c.args.marks.now in
          record {
            same = c.advance.auto.marks ∙ known.same;
            keeps = λ k m. at.keeps k (known.keeps k m);
            reached = all_reached c.args.tracked c.args.steps.now c.loop-i.marks c.advance.new.marks c.loop-i.i _ step known.reached at.only;
            new = λ g. subst Fewer (sym same.0) (known.new (sym w.grown-is ∙ g));
            old = λ g. same.0 ∙ known.old (sym w.grown-is ∙ g);
            closed = λ g. subst Closed (sym same.0) (closed_more c.args.tracked c.args.steps.now c.loop-i.marks c.loop-i.i _ step (known.closed (sym w.grown-is ∙ g)) same.1);
          }
    ]
