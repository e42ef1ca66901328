-- What a search for an order has done, and what is left to it.
use Rattle.std.specs.Prelude.{◌≡◌, ◌⊎◌, ℕ, ◌+◌, Bool, true, false, List, [], ◌∷◌, ◌++◌, length, take, drop, Option, Some, None, slice_get, slice_set}
use Rattle.tso_fifo.specs.declared.candidate.Candidate.{Candidate}
use Rattle.tso_fifo.specs.declared.memory.Key.{Key}
use Rattle.tso_fifo.specs.declared.order.Placed.{Placed as Entry}
use Rattle.tso_fifo.specs.Orders.{IsOrderOf, order_view}
use Rattle.tso_fifo.specs.declared.queue.Queue.{Queue}
use Rattle.tso_fifo.specs.declared.search.Configuration.{Configuration}
use Rattle.tso_hist.specs.declared.call.Call.{Call}
use Rattle.tso_hist.specs.Views.{history_view}
use Rattle.tso_line.specs.declared.instruction.CallKind.{CallKind}
use Rattle.tso_line.specs.declared.instruction.CallKind.TheVariants.{Push, Pop}
use Rattle.tso_model.specs.Linear.{EachTwo, IsOtherCall, Placed, Precedes, call_at, placed_calls}
use Rattle.tso_model.specs.Objects.{Mode, QueueStep, QueueSteps}
use Rattle.tso_model.specs.Programs as model
use Rattle.tso_model.specs.Reduce.{Has}
use Rattle.tso_model.specs.States.{Called}
use Rattle.tso_prog.specs.Views.{answer_view, call_view, mode_view}
use Rattle.tso_prog.specs.declared.answer.Answer.{Answer}
use Rattle.tso_prog.specs.declared.answer.Answer.TheVariants.{Refused, Done, Value}

-- an order of the candidates is sought that explains the history by a queue
pub record Problem : Type 0 where
  pub mode : Mode
  pub capacity : ℕ
  pub history : List (List Called)
  pub candidates : List Candidate

abbrev pub problem_of : Queue → List (List Call) → List Candidate → Problem
problem_of queue h cs = record { mode = mode_view queue.mode; capacity = queue.capacity; history = history_view h; candidates = cs }

-- the order has call k of thread t
pub record IsTaken (cs : List Candidate) (taken : List Bool) (t k : ℕ) : Type 0 where
  pub index : ℕ
  pub candidate : Candidate
  pub at : slice_get cs index ≡ Some candidate
  pub thread : candidate.thread ≡ t
  pub call : candidate.call ≡ k
  pub set : slice_get taken index ≡ Some true

-- these calls, behind those that the order has, complete it
pub record Completes (s : Problem) (at : Configuration) (rest : List Placed) : Type 0 where
  pub once : EachTwo IsOtherCall rest
  pub begun : (o : Placed) → Has rest o → (c : Called) × (call_at s.history o.thread o.number ≡ Some c) × (c.kind ≡ o.kind) × ((c.answer ≡ None) ⊎ (c.answer ≡ Some o.answer))
  pub fresh : (o : Placed) → Has rest o → IsTaken s.candidates at.taken o.thread o.number → ⊥
  pub complete : (t k : ℕ) (c : Called) (a : model.Answer) → call_at s.history t k ≡ Some c → c.answer ≡ Some a →
      IsTaken s.candidates at.taken t k ⊎ Has rest (record { thread = t; number = k; kind = c.kind; answer = a })
  pub in_order : EachTwo (λ x y. Precedes s.history y.thread y.number x.thread x.number → ⊥) rest
  pub behind : (o : Placed) (t k : ℕ) → Has rest o → IsTaken s.candidates at.taken t k → Precedes s.history o.thread o.number t k → ⊥
  pub allowed : (after : List ℕ) × QueueSteps s.mode s.capacity at.items (placed_calls rest) after

-- nothing completes it
abbrev pub IsDead : Problem → Configuration → Type 0
IsDead s at = (rest : List Placed) → Completes s at rest → ⊥

-- the order so far is one of begun calls that the queue allows
pub record IsStart (s : Problem) (at : Configuration) (order : List Placed) : Type 0 where
  pub len : length at.taken ≡ length s.candidates
  pub listed : (t k : ℕ) → IsTaken s.candidates at.taken t k → (o : Placed) × Has order o × (o.thread ≡ t) × (o.number ≡ k)
  pub taken : (o : Placed) → Has order o → IsTaken s.candidates at.taken o.thread o.number
  pub once : EachTwo IsOtherCall order
  pub begun : (o : Placed) → Has order o → (c : Called) × (call_at s.history o.thread o.number ≡ Some c) × (c.kind ≡ o.kind) × ((c.answer ≡ None) ⊎ (c.answer ≡ Some o.answer))
  pub in_order : EachTwo (λ x y. Precedes s.history y.thread y.number x.thread x.number → ⊥) order
  pub steps : QueueSteps s.mode s.capacity [] (placed_calls order) at.items

-- the same of the code's order and history
abbrev pub StartsWith : Queue → List (List Call) → List Candidate → Configuration → List Entry → Type 0
StartsWith queue h cs at order = IsStart (problem_of queue h cs) at (order_view (history_view h) order)

-- the order explains the history by the queue
abbrev pub Explains : Queue → List (List Call) → List Entry → Type 0
Explains queue h order = IsOrderOf queue.mode queue.capacity h (order_view (history_view h) order)

-- the order has each call that has returned
abbrev pub HasAllTaken : Problem → List Bool → Type 0
HasAllTaken s taken = (t k : ℕ) (c : Called) (a : model.Answer) → call_at s.history t k ≡ Some c → c.answer ≡ Some a → IsTaken s.candidates taken t k

-- two candidates are one call
abbrev pub IsSameCall : Candidate → Candidate → Type 0
IsSameCall p q = (p.thread ≡ q.thread) × (p.call ≡ q.call)

-- q, which the order has or has not, lets p be the next: p is another call that was not before it; q is pending, or was not before p
abbrev pub Lets : List (List Called) → Candidate → Candidate → Bool → Type 0
Lets h p q true = ¬ (IsSameCall q p) × ¬ (Precedes h p.thread p.call q.thread q.call)
Lets h p q false = ¬ (IsSameCall q p) → ¬ (q.answer ≡ None) → ¬ (Precedes h q.thread q.call p.thread p.call)

-- p is not in the order, was before no call there, and no returned call that is missing was before it
pub record MayBeNext (s : Problem) (taken : List Bool) (p : Candidate) : Type 0 where
  pub fresh : IsTaken s.candidates taken p.thread p.call → ⊥
  pub behind : (t k : ℕ) → IsTaken s.candidates taken t k → Precedes s.history p.thread p.call t k → ⊥
  pub minimal : (t k : ℕ) (c : Called) (a : model.Answer) → call_at s.history t k ≡ Some c → c.answer ≡ Some a → (IsTaken s.candidates taken t k → ⊥)
      → ¬ ((t ≡ p.thread) × (k ≡ p.call)) → Precedes s.history t k p.thread p.call → ⊥

-- p may be the next with this answer
pub record StandsNext (s : Problem) (at : Configuration) (p : Candidate) (answer : Answer) : Type 0 where
  pub may : MayBeNext s at.taken p
  pub own : (p.answer ≡ None) ⊎ (p.answer ≡ Some answer)
  pub allowed : (after : List ℕ) × QueueStep s.mode s.capacity at.items (call_view p.kind) (answer_view answer) after

-- the one answer that a call may have next, but for a refusal of a pending call
abbrev pub likely_answer : Option Answer → CallKind → Option ℕ → Option Answer
likely_answer (Some a) kind front = Some a
likely_answer None (Push v) front = Some Done
likely_answer None Pop None = None
likely_answer None Pop (Some v) = Some (Value v)

-- the entry is more than a refusal of a pending call
abbrev pub IsOfUse : List (List Called) → Placed → Type 0
IsOfUse h e = (c : Called) → call_at h e.thread e.number ≡ Some c → c.answer ≡ None → e.answer ≡ model.Refused → ⊥

-- where the candidate can be the next of what completes the order, the answer is the one that it has there
abbrev pub FindsNext : Problem → Configuration → Candidate → Option model.Answer → Type 0
FindsNext s at next answer =
    (i : ℕ) (e : Placed) (rest : List Placed) → slice_get s.candidates i ≡ Some next → e.thread ≡ next.thread → e.number ≡ next.call
    → IsOfUse s.history e → Completes s at (e ∷ rest) → answer ≡ Some e.answer

-- what the queue holds after the call
abbrev pub items_after : List ℕ → CallKind → Answer → List ℕ
items_after items (Push v) Done = items ++ v ∷ []
items_after items (Push v) Refused = items
items_after items (Push v) (Value w) = items
items_after items Pop (Value w) = drop 1 items
items_after items Pop Refused = items
items_after items Pop Done = items

-- with one more candidate in the order
abbrev pub next_at : Configuration → ℕ → CallKind → Answer → Configuration
next_at at index kind answer = record { taken = slice_set at.taken index true; items = items_after at.items kind answer }

-- how many items a call can take, if the order has it not
abbrev pub pops_of : CallKind → Bool → ℕ
pops_of kind true = 0
pops_of (Push v) false = 0
pops_of Pop false = 1

-- how many the calls that the order has not can take at most
abbrev pub pops_left : List Candidate → List Bool → ℕ
pops_left [] taken = 0
pops_left (c ∷ cs) [] = 0
pops_left (c ∷ cs) (b ∷ taken) = pops_of c.kind b + pops_left cs taken

-- what of a configuration decides whether it can be completed
abbrev pub key_of : List Candidate → Configuration → Key
key_of cs at = record { taken = at.taken; front = take (pops_left cs at.taken) at.items; len = length at.items }

-- no configuration with this key can be completed
pub record IsDeadKey (s : Problem) (key : Key) : Type 0 where
  pub dead : (at : Configuration) → length at.taken ≡ length s.candidates → key_of s.candidates at ≡ key → IsDead s at
