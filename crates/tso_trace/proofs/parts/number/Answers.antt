use Rattle.std.proofs.Common.{rules, sym, ◌∙◌}
use Rattle.tso_trace.proofs.Numbers.{decimal_is_plain, decimal_is_text, none_read, read_is}
use Rattle.tso_trace.proofs.parts.number.Goals as goal

pub returns-then-not-is_plain : goal.returns-then-not-is_plain
returns-then-not-is_plain c n small is =
    let plain = rw (← is) at (decimal_is_plain n small) in
    search (rules, c.if-not-is_plain.ensures.1 (plain.unsigned, plain.short))

pub returns-in-Ok-parse : goal.returns-in-Ok-parse
returns-in-Ok-parse c =
    let plain = c.if-not-is_plain.ensures.0 (search rules) in
    let read = read_is _ c.parse.result _ c.parse.ensures.value.0 c.in-Ok-parse.is (rw c.in-Ok.ensures.cases.0 (record { unsigned = plain.0; short = plain.1 })) in
    (read.0, sym c.in-Ok.ensures.cases.0 ∙ read.1)

pub returns-in-Err-parse : goal.returns-in-Err-parse
returns-in-Err-parse c n small is = none_read _ c.parse.result _ c.parse.ensures.value.0 c.in-Err-parse.is n small (c.in-Ok.ensures.cases.0 ∙ is)

pub returns-in-Err : goal.returns-in-Err
returns-in-Err c n small is = c.in-Err.ensures.cases.0 (rw is (decimal_is_text n small))
