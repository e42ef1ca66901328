use Rattle.std.proofs.Common.{take, List, ℕ, ◌∷◌, ◌∙◌, sym, ap}
use Rattle.tso_line.proofs.Pieces.{split_at_end, split_cut}
use Rattle.tso_line.specs.Lexemes.{split_by}
use Rattle.tso_source.specs.Sources.{is_newline}
use Rattle.tso_source.proofs.source.cut.Goals as goal

pub returns-then-n-text-clause-none : goal.returns-then-n-text-clause-none
returns-then-n-text-clause-none c = split_at_end is_newline c.args.text.now (sym c.line_len-n.ensures.len ∙ c.if-n-text.true)

pub returns-clause-some : goal.returns-clause-some
returns-clause-some c =
    split_cut is_newline c.line_len-n.result c.args.text.now c.line_len-n.ensures.len c.line_len-n.ensures.within c.if-n-text.false ∙ ap (λ (x : List ℕ). take c.line_len-n.result c.args.text.now ∷ split_by is_newline x) (sym c.split_at.ensures.back)
