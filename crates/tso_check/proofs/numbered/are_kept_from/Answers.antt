use Rattle.std.proofs.Common.{refl, sym, subst, ◌∙◌}
use Rattle.std.proofs.lemmas.Bool.{false≢true}
use Rattle.std.proofs.lemmas.List.{take_all}
use Rattle.std.proofs.lemmas.List.Elements.{All-more}
use Rattle.std.specs.Prelude.{All}
use Rattle.tso_check.specs.Numbered.{IsKeptFrom}
use Rattle.tso_choose.specs.declared.choice.Choice.{Choice}
use Rattle.tso_check.proofs.numbered.are_kept_from.Goals as goal

pub loop-choice-preserved : goal.loop-choice-preserved
loop-choice-preserved c =
    let P : Choice → Type 0 = λ x. IsKeptFrom c.args.store.now.client c.args.store.now.states c.args.number x.actor in
    All-more P c.args.choices.now c.loop-choice.choice-index c.choice-item.result c.loop-choice-test.true c.loop-choice.invariant (subst P c.choice-item.is (c.is_kept_from.ensures.0 c.if-not-is_kept_from.false))

pub returns-then-not-is_kept_from : goal.returns-then-not-is_kept_from
returns-then-not-is_kept_from c =
    let P : Choice → Type 0 = λ x. IsKeptFrom c.args.store.now.client c.args.store.now.states c.args.number x.actor in (
      λ e. absurd (false≢true e),
      λ all. sym c.if-not-is_kept_from.true ∙ c.is_kept_from.ensures.1 (subst P (sym c.choice-item.is) (all c.loop-choice.choice-index c.choice-item.result c.loop-choice-test.true)),
    )

pub returns : goal.returns
returns c =
    let P : Choice → Type 0 = λ x. IsKeptFrom c.args.store.now.client c.args.store.now.states c.args.number x.actor in
    (λ e. subst (All P) (take_all c.loop-choice.choice-index c.args.choices.now c.loop-choice-test.false) c.loop-choice.invariant, λ all. refl)
