use Rattle.std.proofs.Common.{◌≡◌, ℕ, ◌+◌, ◌<◌, length, sym, subst, ◌∙◌, arith}
use Rattle.std.specs.Prelude.{Option}
use Rattle.std.proofs.lemmas.Option.{slice_get-get_or}
use Rattle.tso_prog.specs.declared.fault.Fault.{Fault}
use Rattle.tso_flow.specs.Faults.{IsFirst}
use Rattle.tso_flow.specs.First.{ShapeAt, ShapeIn}
use Rattle.tso_flow.proofs.Firsts.{first_of_none, first_with, first_without}
use Rattle.tso_flow.proofs.Shapes.{shape_known}
use Rattle.tso_flow.proofs.fault.first_shape.Goals as goal
use Rattle.tso_flow.proofs.fault.first_shape.Goals.{in-Some, in_default}

pub loop-i-init : goal.loop-i-init
loop-i-init c = first_of_none (ShapeAt c.args.steps.now) c.args.steps.now c.args.lines.now

pub loop-i-preserved : goal.loop-i-preserved
loop-i-preserved c =
    let steps = c.args.steps.now in
    let lines = c.args.lines.now in
    let lt = c.loop-i-test.true in
    let below : c.loop-i.i < length lines = omega arith in
    let step = slice_get-get_or steps c.loop-i.i _ lt in
    let exact = c.requires.exact c.loop-i.i lt in
    let First : Option Fault → Type 0 = λ (o : Option Fault). IsFirst (ShapeIn steps lines (c.loop-i.i + 1)) o in
    elim c.match-shape_code.branch [
      | in-Some w ↦
          let known = shape_known steps c.loop-i.i _ _ _ exact.0 exact.1 (sym w.in-Some.is ∙ c.shape_code.ensures) in
          subst First (sym (w.first-is ∙ w.earlier-first.ensures)) (first_with (ShapeAt steps) steps lines c.loop-i.i _ _ w.in-Some.code c.loop-i.first step (slice_get-get_or lines c.loop-i.i 0 below) known.0 known.1 c.loop-i.invariant)
      | in_default w ↦
          let known = shape_known steps c.loop-i.i _ _ _ exact.0 exact.1 (sym w.in_default.is ∙ c.shape_code.ensures) in
          subst First (sym w.first-is) (first_without (ShapeAt steps) steps lines c.loop-i.i _ c.loop-i.first step known c.loop-i.invariant)
    ]

pub returns : goal.returns
returns c =
    let end : c.loop-i.i ≡ length c.args.steps.now = omega arith in
    subst (λ (n : ℕ). IsFirst (ShapeIn c.args.steps.now c.args.lines.now n) c.loop-i.first) end c.loop-i.invariant
