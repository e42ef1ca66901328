use Rattle.std.proofs.Common.{◌≡◌, ◌+◌, ◌<◌, ◌≤◌, ℕ, length, refl, sym, subst, ◌∙◌, arith, lit≤}
use Rattle.std.specs.Prelude.{Option}
use Rattle.std.proofs.lemmas.Option.{slice_get-get_or}
use Rattle.tso_prog.specs.declared.fault.Code.{Code}
use Rattle.tso_prog.specs.declared.fault.Code.TheVariants.{E14}
use Rattle.tso_prog.specs.declared.fault.Fault.{Fault}
use Rattle.tso_prog.specs.Codes.{code_number}
use Rattle.tso_flow.specs.Faults.{IsFirst}
use Rattle.tso_flow.specs.First.{ReadAt, ReadIn}
use Rattle.tso_flow.proofs.Firsts.{first_of_none, first_with, first_without}
use Rattle.tso_flow.proofs.fault.first_read.Goals as goal
use Rattle.tso_flow.proofs.fault.first_read.Goals.{then-is_reached+then-reads, else-is_reached, else-is_reached-via-then-is_reached+else-reads, else-is_reached-via-else-is_reached}

pub loop-i-init : goal.loop-i-init
loop-i-init c = first_of_none (ReadAt c.args.kind c.args.steps.now c.args.location) c.args.steps.now c.args.lines.now

known_number : (code : Code) → code ≡ E14 → 14 ≤ code_number code
known_number code e = subst (λ (x : Code). 14 ≤ code_number x) (sym e) (lit≤ tt)

pub loop-i-preserved : goal.loop-i-preserved
loop-i-preserved c =
    let steps = c.args.steps.now in
    let lines = c.args.lines.now in
    let At = ReadAt c.args.kind steps c.args.location in
    let lt = c.loop-i-test.true in
    let below : c.loop-i.i < length lines = omega arith in
    let step = slice_get-get_or steps c.loop-i.i _ lt in
    let exact = c.requires.exact c.loop-i.i lt in
    let First : Option Fault → Type 0 = λ (o : Option Fault). IsFirst (ReadIn c.args.kind steps lines c.args.location (c.loop-i.i + 1)) o in
    elim c.if-is_reached.branch [
      | then-is_reached+then-reads w ↦
          subst First (sym (w.first-is ∙ w.earlier-first.ensures)) (first_with At steps lines c.loop-i.i _ _ E14 c.loop-i.first step (slice_get-get_or lines c.loop-i.i 0 below)
          (refl, sym w.reads.ensures ∙ w.if-reads.true, exact.0 w.if-is_reached.true) (λ other h. known_number other h.0) c.loop-i.invariant)
      | else-is_reached w ↦
          subst First (sym w.first-is) (first_without At steps lines c.loop-i.i _ c.loop-i.first step
          (λ code h. elim w.else-is_reached.branch [
            | else-is_reached-via-then-is_reached+else-reads v ↦ cc (v.reads.ensures, v.if-reads.false, h.1)
            | else-is_reached-via-else-is_reached v ↦ cc (v.if-is_reached.false, exact.1 h.2)
          ]) c.loop-i.invariant)
    ]

pub returns : goal.returns
returns c =
    let end : c.loop-i.i ≡ length c.args.steps.now = omega arith in
    subst (λ (n : ℕ). IsFirst (ReadIn c.args.kind c.args.steps.now c.args.lines.now c.args.location n) c.loop-i.first) end c.loop-i.invariant
