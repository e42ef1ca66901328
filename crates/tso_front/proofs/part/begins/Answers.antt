use Rattle.tso_front.proofs.LineLemmas.{unindented}
use Rattle.tso_front.proofs.part.begins.Goals as goal

pub returns-then-starts_with : goal.returns-then-starts_with
returns-then-starts_with c =
    rw (← unindented _ _ c.trim_ascii_start-line.ensures.value, ← c.starts_with.ensures.value, c.if-starts_with.true) c.ends_word.ensures

pub returns-else-starts_with : goal.returns-else-starts_with
returns-else-starts_with c =
    rw (← unindented _ _ c.trim_ascii_start-line.ensures.value, ← c.starts_with.ensures.value, c.if-starts_with.false)
