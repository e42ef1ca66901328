-- What a queue holds after the calls of an order.
use Rattle.std.specs.Prelude.{ℕ, List, Option, Some, None, filter_map}
use Rattle.tso_fifo.specs.declared.order.Placed.{Placed}
use Rattle.tso_fifo.specs.Orders.{placed_in}
use Rattle.tso_model.specs.Programs as model
use Rattle.tso_model.specs.States.{Called}
use Rattle.tso_prog.specs.declared.answer.Answer.{Answer}
use Rattle.tso_prog.specs.declared.answer.Answer.TheVariants.{Refused, Done, Value}

-- what a call with this answer puts into the queue
abbrev pub put_by : model.CallKind → model.Answer → Option ℕ
put_by (model.Push v) model.Done = Some v
put_by (model.Push v) model.Refused = None
put_by (model.Push v) (model.Value w) = None
put_by model.Pop answer = None

abbrev pub pushed_by : List (List Called) → Placed → Option ℕ
pushed_by h o = put_by (placed_in h o).kind (placed_in h o).answer

-- all that the calls put into the queue, in order
abbrev pub pushed : List (List Called) → List Placed → List ℕ
pushed h order = filter_map (pushed_by h) order

-- how many items a call with this answer takes
abbrev pub taken_by : Answer → ℕ
taken_by Refused = 0
taken_by Done = 0
taken_by (Value v) = 1
