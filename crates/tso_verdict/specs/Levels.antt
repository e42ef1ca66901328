-- How full the queue is while calls answer one after another.
use Rattle.std.specs.Prelude.{ℕ, List, ◌+◌, ◌-◌, ◌^◌, max, min}
use Rattle.std.specs.List.{fold}
use Rattle.tso_verdict.specs.declared.order.Level.{Level}
use Rattle.tso_fifo.specs.declared.order.Placed.{Placed}
use Rattle.tso_prog.specs.declared.answer.Answer.{Answer}
use Rattle.tso_prog.specs.declared.answer.Answer.TheVariants.{Refused, Done, Value}
use Rattle.tso_rec.specs.declared.record.End.{End}
use Rattle.tso_rec.specs.declared.record.End.TheVariants.{Choices, Order}

-- a push that is done puts an item in, a pop with a value takes one out, as far as numbers of 64 bits go
abbrev pub after_answer : ℕ → Answer → ℕ
after_answer items Refused = items
after_answer items Done = min (items + 1) (2 ^ 64 - 1)
after_answer items (Value word) = items - 1

abbrev pub level_after : Level → Placed → Level
level_after level placed = record { items = after_answer level.items placed.answer; most = max level.most (after_answer level.items placed.answer) }

-- the greatest number of items on the way, from an empty queue on
abbrev pub most_items : List Placed → ℕ
most_items order = (fold level_after (record { items = 0; most = 0 }) order).most

-- the greater of what is known and of what an end has
abbrev pub most_noted : ℕ → End → ℕ
most_noted most (Choices choices) = most
most_noted most (Order order) = max most (most_items order)

-- the greatest number of items along the orders of these ends
abbrev pub most_in : List End → ℕ
most_in ends = fold most_noted 0 ends
