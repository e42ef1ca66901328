use Rattle.std.proofs.Common.{take, List, ◌∷◌, arith, length-drop, ◌∙◌, sym, ap}
use Rattle.tso_text.specs.declared.token.Token.{Token}
use Rattle.tso_line.proofs.Pieces.{split_at_end, split_cut}
use Rattle.tso_line.specs.Lexemes.{split_by}
use Rattle.tso_prog.specs.Program.{ends_line}
use Rattle.tso_prog.proofs.text.cut_line.Goals as goal

pub returns-then-n-tokens-clause-none : goal.returns-then-n-tokens-clause-none
returns-then-n-tokens-clause-none c = split_at_end ends_line c.args.tokens.now (sym c.before_newline-n.ensures.len ∙ c.if-n-tokens.true)

pub returns-clause-some : goal.returns-clause-some
returns-clause-some c = (
  split_cut ends_line c.before_newline-n.result c.args.tokens.now c.before_newline-n.ensures.len c.before_newline-n.ensures.within c.if-n-tokens.false ∙ ap (λ (x : List Token). take c.before_newline-n.result c.args.tokens.now ∷ split_by ends_line x) (sym c.split_at.ensures.back),
  rw (c.split_at.ensures.back, length-drop) (omega (arith, c.before_newline-n.ensures.within, c.if-n-tokens.false)),
)
