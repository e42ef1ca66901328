use Rattle.std.proofs.Common.{refl, append_assoc}
use Rattle.tso_print.proofs.Joins.{eight}
use Rattle.tso_print.proofs.operand.push_index.Goals as goal

pub returns-in_ok-push_str-3 : goal.returns-in_ok-push_str-3
returns-in_ok-push_str-3 c =
    rw (c.in_ok-push_str-3.ensures.bytes, c.in_ok-push_str-2.ensures.bytes, c.in_ok-push_str.ensures.bytes, c.register_word.ensures, c.in-Some.is, eight, append_assoc, append_assoc) refl
