-- Looser objects, and weak queues among them.
use Rattle.std.proofs.Common.{ℕ, ◌≤◌, List, [], ◌∷◌, arith}
use Rattle.tso_model.specs.Objects.{Mode, QueueStep, QueueSteps, Weak}
use Rattle.tso_model.specs.Programs.{Answer, CallKind, Done, Pop, Push, Refused, Value}
use Rattle.tso_client.specs.Goodness.{LooserObjectsServe, WeakQueuesAreLooser}

pub looser_objects_serve : LooserObjectsServe
looser_objects_serve a b looser ls (unfaulted, (order, l)) = (
  unfaulted,
  (
    order,
    record {
      once = l.once;
      begun = l.begun;
      own_answers = l.own_answers;
      complete = l.complete;
      in_order = l.in_order;
      allowed = looser _ l.allowed;
    },
  ),
)

module _ (mode : Mode) (capacity room : ℕ) (more : capacity ≤ room) where
  one : (before after : List ℕ) (k : CallKind) (a : Answer) → QueueStep mode capacity before k a after → QueueStep Weak room before k a after
  one before after (Push v) Done (lt, is) = (omega (arith, lt, more), is)
  one before after (Push v) Refused (may, is) = (tt, is)
  one before after (Push v) (Value w) h = absurd h
  one before after Pop Done h = absurd h
  one before after Pop Refused (may, is) = (tt, is)
  one before after Pop (Value v) is = is

  all : (before after : List ℕ) (calls : List (CallKind × Answer)) → QueueSteps mode capacity before calls after → QueueSteps Weak room before calls after
  all before after [] is = is
  all before after (c ∷ cs) (mid, step, rest) = (mid, one before mid c.0 c.1 step, all mid after cs rest)

pub weak_queues_are_looser : WeakQueuesAreLooser
weak_queues_are_looser mode capacity room more calls (after, steps) = (after, all mode capacity room more [] after calls steps)
