use Rattle.std.proofs.Common.{◌≡◌, true, map, take}
use Rattle.std.specs.List.{list_all}
use Rattle.tso_line.specs.Words.{lexeme_of, has_name}
use Rattle.tso_prog.proofs.text.lexemes_of.Given as goal

abbrev pub invariant-loop-token : goal.invariant-loop-token
invariant-loop-token l = record {
  exact : l.lexemes.items ≡ map (lexeme_of l.source) (take l.token-index l.tokens);
  named : list_all (has_name l.source) l.lexemes.items ≡ true;
}
