use Rattle.std.proofs.Common.{◌≡◌, ◌+◌, ℕ, length, sym, subst, ◌∙◌, arith}
use Rattle.std.specs.Prelude.{Option}
use Rattle.std.proofs.lemmas.Option.{slice_get-get_or}
use Rattle.tso_prog.specs.declared.fault.Fault.{Fault}
use Rattle.tso_flow.specs.Faults.{IsFirst}
use Rattle.tso_flow.specs.First.{ReadOf}
use Rattle.tso_flow.proofs.Locations.{none_read, more_given, more_read}
use Rattle.tso_flow.proofs.fault.first_unwritten.Goals as goal
use Rattle.tso_flow.proofs.fault.first_unwritten.Goals.{then-not-is_given+in_ok-marks, else-not-is_given}

pub loop-i-init : goal.loop-i-init
loop-i-init c = none_read c.args.kind c.args.steps.now c.args.lines.now c.args.locations.now

pub loop-i-preserved : goal.loop-i-preserved
loop-i-preserved c =
    let kind = c.args.kind in
    let steps = c.args.steps.now in
    let lines = c.args.lines.now in
    let xs = c.args.locations.now in
    let x = slice_get-get_or xs c.loop-i.i _ c.loop-i-test.true in
    let First : Option Fault → Type 0 = λ (o : Option Fault). IsFirst (ReadOf kind steps lines xs (c.loop-i.i + 1)) o in
    elim c.if-not-is_given.branch [
      | then-not-is_given+in_ok-marks w ↦
          subst First (sym (w.first-is ∙ w.earlier-first.ensures)) (more_read kind steps lines xs c.loop-i.i _ c.loop-i.first w.first_read.result x (sym c.is_given.ensures ∙ w.if-not-is_given.true) c.loop-i.invariant w.first_read.ensures)
      | else-not-is_given w ↦
          subst First (sym w.first-is) (more_given kind steps lines xs c.loop-i.i _ c.loop-i.first x (sym c.is_given.ensures ∙ w.if-not-is_given.false) c.loop-i.invariant)
    ]

pub returns : goal.returns
returns c =
    let end : c.loop-i.i ≡ length c.args.locations.now = omega arith in
    subst (λ (n : ℕ). IsFirst (ReadOf c.args.kind c.args.steps.now c.args.lines.now c.args.locations.now n) c.loop-i.first) end c.loop-i.invariant
