-- Store buffers as queues: the entries that were drained, and those that were not.
use Rattle.std.specs.Prelude.{◌-◌, List, [], ◌∷◌, ◌++◌, length, take, drop}
use Rattle.tso_machine.specs.declared.buffer.Entry.{Entry}

pub record Queue : Type 0 where
  pub past : List Entry
  pub live : List Entry

abbrev pub empty_queue : Queue
empty_queue = record { past = []; live = [] }

abbrev pub pushed : Queue → Entry → Queue
pushed q e = record q { live = q.live ++ e ∷ [] }

-- the newest entry taken back
abbrev pub popped : Queue → Queue
popped q = record q { live = take (length q.live - 1) q.live }

-- the oldest entry let go
abbrev pub drained : Queue → Queue
drained q = record { past = q.past ++ take 1 q.live; live = drop 1 q.live }

-- the entry that was drained last brought back
abbrev pub undrained : Queue → Queue
undrained q = record { past = take (length q.past - 1) q.past; live = drop (length q.past - 1) q.past ++ q.live }
