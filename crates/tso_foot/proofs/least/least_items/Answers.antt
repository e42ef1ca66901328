use Rattle.std.proofs.Common.{◌≡◌, ◌++◌, ℕ, List, length, take, drop, arith, refl, sym, subst}
use Rattle.std.proofs.lemmas.Grind.{common_steps}
use Rattle.tso_foot.proofs.LeastLemmas.{first_growing, joined_is_closed}
use Rattle.tso_foot.specs.Least.{IsGrowing}
use Rattle.tso_foot.specs.declared.masks.Masks.{Masks}
use Rattle.tso_foot.proofs.least.least_items.Goals as goal

written : (new items : List Masks) (len : ℕ) → length new ≡ length items → len ≡ length items → take len (new ++ drop (length new) items) ≡ new
written new items len e f = grind (arith, common_steps)

pub grow-init : goal.grow-init
grow-init c = subst (IsGrowing c.args.arrays c.args.steps.now) (sym (c.in_ok-items.ensures.items_if_clones_equal (λ y e. e))) (first_growing c.args.arrays c.args.steps.now)

pub grow-preserved : goal.grow-preserved
grow-preserved c =
    let now = c.deref_mut.ensures.value in
    let new : List Masks = c.spread.new.items in
    let kept : length new ≡ length c.grow.items.items = subst (λ (xs : List Masks). length new ≡ length xs) now c.spread.auto.items in
    rw (written new c.grow.items.items c.grow.items.len kept c.grow.items.ok.0) c.spread.ensures.growing

pub returns-clause-closed : goal.returns-clause-closed
returns-clause-closed c =
    let now = c.deref_mut.ensures.value in
    let new : List Masks = c.spread.new.items in
    let kept : length new ≡ length c.grow.items.items = subst (λ (xs : List Masks). length new ≡ length xs) now c.spread.auto.items in
    rw (c.from_vec.ensures, written new c.grow.items.items c.grow.items.len kept c.grow.items.ok.0) (joined_is_closed c.args.arrays c.args.steps.now new c.spread.ensures.growing (c.if-not-spread.ensures.joined refl))
