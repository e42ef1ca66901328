use Rattle.std.proofs.Common.{◌≡◌, ℕ, ◌<◌, ◌++◌, Bool, true, List, length, take, drop, refl, sym, subst, arith}
use Rattle.std.proofs.lemmas.Grind.{common_steps}
use Rattle.tso_flow.specs.Marks.{is_marked}
use Rattle.tso_flow.proofs.Closing.{reached_marked}
use Rattle.tso_flow.proofs.path.reached.Goals as goal

written : (new items : List Bool) (len : ℕ) → length new ≡ length items → len ≡ length items → take len (new ++ drop (length new) items) ≡ new
written new items len e f = grind (arith, common_steps)

pub returns-clause-exact : goal.returns-clause-exact
returns-clause-exact c =
    let now = c.deref_mut.ensures.value in
    let new : List Bool = c.spread.new.marks in
    let kept : length new ≡ length c.grow.marks.items = subst (λ (xs : List Bool). length new ≡ length xs) now c.spread.auto.marks in
    let same : length new ≡ length c.args.steps.now = omega (arith, kept, c.grow.invariant.same) in
    let first : 0 < length c.args.steps.now → is_marked new 0 ≡ true = λ some. c.spread.ensures.keeps 0 (subst (λ (xs : List Bool). is_marked xs 0 ≡ true) (sym now) (c.grow.invariant.first some)) in
    rw (written new c.grow.marks.items c.grow.marks.len kept c.grow.marks.ok.0)
    (λ k lt. (c.spread.ensures.reached k, reached_marked c.args.tracked c.args.steps.now new same (c.if-not-spread.ensures.closed refl) first k lt))
