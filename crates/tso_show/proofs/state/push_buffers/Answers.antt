use Rattle.tso_show.proofs.Joins.{four}
use Rattle.tso_show.proofs.state.push_buffers.Goals as goal

pub returns : goal.returns
returns c =
    rw (← c.as_slice.ensures, ← c.as_slice-2.ensures) (four _ _ _ _ _ _ _ _ _ c.in_ok-push_str.ensures.bytes c.in_ok-push_memory.ensures c.in_ok-push_str-2.ensures.bytes c.in_ok-push_buffer_lines.ensures)
