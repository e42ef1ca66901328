-- What is shown of one label of a walk.
use Rattle.std.specs.Prelude.{◌≡◌, ◌+◌, Some, slice_get, string_bytes}
use Rattle.tso_show.specs.Sites.{taker}
use Rattle.tso_show.specs.States.{shown_text}
use Rattle.tso_show.specs.declared.moment.Moment.{Moment}
use Rattle.tso_show.specs.declared.state.Show.{Show}
use Rattle.tso_trace.specs.Walks.{Shown}

-- the label is the next one of the walk before; its instruction is the one that the frame of its thread is at before it; and
-- what is shown is of the machine after it
pub record IsMoment (show : Show) (before after : Shown) (m : Moment) : Type 0 where
  pub next : slice_get before.labels before.position ≡ Some m.label
  pub moved : after.position ≡ before.position + 1
  pub site : m.site ≡ taker before.client before.machine m.label
  pub shown : string_bytes m.shown ≡ shown_text show before.client after.machine m.label
