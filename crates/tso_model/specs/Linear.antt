-- Linearizations of a run's history, after Herlihy, Wing, TOPLAS 12(3), 1990; and the same of a counted history, which a
-- checker can test.
use Rattle.std.specs.Prelude.{◌≡◌, ℕ, ◌<◌, List, [], ◌∷◌, map, Option, Some, None, ◌⊎◌, slice_get, slice_index_or}
use Rattle.tso_model.specs.Events.{Event, IsBefore, answers_of, kinds_of}
use Rattle.tso_model.specs.Objects.{Allows, Object}
use Rattle.tso_model.specs.Programs.{Answer, CallKind}
use Rattle.tso_model.specs.Reduce.{Has}
use Rattle.tso_model.specs.States.{Called, calls_in}

-- a call's place in an order: call `number` of `thread`, with an answer
pub record Placed : Type 0 where
  pub thread : ℕ
  pub number : ℕ
  pub kind : CallKind
  pub answer : Answer

-- each has the relation to each later one
abbrev pub EachTwo : (Placed → Placed → Type 0) → List Placed → Type 0
EachTwo R [] = Unit {0}
EachTwo R (x ∷ xs) = ((y : Placed) → Has xs y → R x y) × EachTwo R xs

-- they are not the same call
abbrev pub IsOtherCall : Placed → Placed → Type 0
IsOtherCall x y = x.thread ≡ y.thread → x.number ≡ y.number → ⊥

-- the calls with their answers, as the object sees them
abbrev pub placed_calls : List Placed → List (CallKind × Answer)
placed_calls order = map (λ o. (o.kind, o.answer)) order

-- the order has begun calls with answers, none twice: each returned call with its own answer, no call before one that
-- was before it, and the object allows its calls and answers one after another
pub record IsLinearization (object : Object) (es : List Event) (order : List Placed) : Type 0 where
  pub once : EachTwo IsOtherCall order
  pub begun : (o : Placed) → Has order o → slice_get (kinds_of o.thread es) o.number ≡ Some o.kind
  pub own_answers : (o : Placed) (a : Answer) → Has order o → slice_get (answers_of o.thread es) o.number ≡ Some a → o.answer ≡ a
  pub complete : (thread number : ℕ) (a : Answer) → slice_get (answers_of thread es) number ≡ Some a →
      (k : CallKind) × Has order (record { thread = thread; number = number; kind = k; answer = a })
  pub in_order : EachTwo (λ x y. IsBefore es y.thread y.number x.thread x.number → ⊥) order
  pub allowed : Allows object (placed_calls order)

-- some order is a linearization
abbrev pub IsLinearizable : Object → List Event → Type 0
IsLinearizable object es = (order : List Placed) × IsLinearization object es order

-- THE SAME OF A COUNTED HISTORY

-- call `number` of the thread
abbrev pub call_at : List (List Called) → ℕ → ℕ → Option Called
call_at h thread number = slice_get (calls_in h thread) number

-- call k of t had returned when call j of u began
abbrev pub Precedes : List (List Called) → ℕ → ℕ → ℕ → ℕ → Type 0
Precedes h t k u j = (c : Called) × (call_at h u j ≡ Some c) × (k < slice_index_or c.seen t 0)

-- the order has begun calls with answers, none twice, each returned call with its own answer, no call before one that it
-- had seen return, and the object allows its calls and answers
pub record IsOrder (object : Object) (h : List (List Called)) (order : List Placed) : Type 0 where
  pub once : EachTwo IsOtherCall order
  pub begun : (o : Placed) → Has order o → (c : Called) × (call_at h o.thread o.number ≡ Some c) × (c.kind ≡ o.kind) × ((c.answer ≡ None) ⊎ (c.answer ≡ Some o.answer))
  pub complete : (thread number : ℕ) (c : Called) (a : Answer) → call_at h thread number ≡ Some c → c.answer ≡ Some a →
      Has order (record { thread = thread; number = number; kind = c.kind; answer = a })
  pub in_order : EachTwo (λ x y. Precedes h y.thread y.number x.thread x.number → ⊥) order
  pub allowed : Allows object (placed_calls order)
