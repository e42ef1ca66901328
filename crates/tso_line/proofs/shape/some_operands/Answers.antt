use Rattle.std.proofs.Common.{sym, ap, ◌∙◌, [], Some}
use Rattle.tso_line.specs.declared.shape.Operands.{Operands}
use Rattle.tso_line.specs.Lexemes.{operands_after, pieces}
use Rattle.tso_line.specs.declared.shape.Operands.TheVariants.{Zero}
use Rattle.tso_line.proofs.Pieces.{operands_more, operands_stop, operands_end}
use Rattle.tso_line.proofs.shape.some_operands.Goals as goal

pub returns-in_err-operand_of : goal.returns-in_err-operand_of
returns-in_err-operand_of c =
    let all = operands_after Zero (pieces c.args.lexemes.now) in
    c.from_residual.ensures ∙ sym (operands_stop c.loop-piece.operands c.in-Some.piece.now (pieces c.in-Some.after.now) all (sym c.operand_of.ensures ∙ c.in_err-operand_of.was) (ap (operands_after c.loop-piece.operands) (sym c.in-Some.ensures.some.0) ∙ c.loop-piece.invariant))

pub loop-piece-preserved : goal.loop-piece-preserved
loop-piece-preserved c =
    let all = operands_after Zero (pieces c.args.lexemes.now) in
    ap (λ (x : Operands). operands_after x (pieces c.in-Some.after.now)) c.and-operands.ensures ∙ operands_more c.loop-piece.operands c.in-Some.piece.now (pieces c.in-Some.after.now) c.in_ok-operand_of.field-0 all (sym c.operand_of.ensures ∙ c.in_ok-operand_of.was) (ap (operands_after c.loop-piece.operands) (sym c.in-Some.ensures.some.0) ∙ c.loop-piece.invariant)

pub returns-in_err-operand_of-2 : goal.returns-in_err-operand_of-2
returns-in_err-operand_of-2 c =
    let all = operands_after Zero (pieces c.args.lexemes.now) in
    c.from_residual-in_err-operand_of-2.ensures ∙ sym (operands_stop c.loop-piece.operands c.loop-piece.rest.now [] all (sym c.operand_of-2.ensures ∙ c.in_err-operand_of-2.was) (ap (operands_after c.loop-piece.operands) (sym c.in_default.ensures.none) ∙ c.loop-piece.invariant))

pub returns : goal.returns
returns c =
    let all = operands_after Zero (pieces c.args.lexemes.now) in
    ap (λ (x : Operands). Some x) c.and.ensures ∙ sym (operands_end _) ∙ operands_more c.loop-piece.operands c.loop-piece.rest.now [] c.in_ok-operand_of-2.field-0 all (sym c.operand_of-2.ensures ∙ c.in_ok-operand_of-2.was) (ap (operands_after c.loop-piece.operands) (sym c.in_default.ensures.none) ∙ c.loop-piece.invariant)
