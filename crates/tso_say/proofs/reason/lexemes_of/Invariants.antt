use Rattle.std.proofs.Common.{◌≡◌, true}
use Rattle.std.specs.List.{list_all}
use Rattle.tso_line.specs.Words.{has_name}
use Rattle.tso_say.proofs.reason.lexemes_of.Given as goal

abbrev pub invariant-loop-token : goal.invariant-loop-token
invariant-loop-token l = list_all (has_name l.source) l.lexemes.items ≡ true
