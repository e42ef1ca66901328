use Rattle.std.proofs.Common.{take, List, ◌∷◌, arith, length-drop, ◌∙◌, sym, ap}
use Rattle.tso_line.specs.declared.lexeme.Lexeme.{Lexeme}
use Rattle.tso_line.proofs.Pieces.{split_at_end, split_cut}
use Rattle.tso_line.specs.Lexemes.{pieces, is_comma}
use Rattle.tso_line.proofs.shape.cut.Goals as goal

pub returns-then-n-lexemes-clause-none : goal.returns-then-n-lexemes-clause-none
returns-then-n-lexemes-clause-none c = split_at_end is_comma c.args.lexemes.now (sym c.before_comma-n.ensures.len ∙ c.if-n-lexemes.true)

pub returns-clause-some : goal.returns-clause-some
returns-clause-some c = (
  split_cut is_comma c.before_comma-n.result c.args.lexemes.now c.before_comma-n.ensures.len c.before_comma-n.ensures.within c.if-n-lexemes.false ∙ ap (λ (x : List Lexeme). take c.before_comma-n.result c.args.lexemes.now ∷ pieces x) (sym c.split_at.ensures.back),
  rw (c.split_at.ensures.back, length-drop) (omega (arith, c.before_comma-n.ensures.within, c.if-n-lexemes.false)),
)
