-- Walks go on by one label, and orders by one call or return.
use Rattle.std.proofs.Common.{◌≡◌, ◌∙◌, ℕ, zero, suc, arith, false, Some, slice_get, ◌+◌, ◌<◌, List, [], ◌∷◌, ◌++◌, length, map, take, get_or, refl, sym, ap, subst, append-nil, append_assoc}
use Rattle.std.proofs.lemmas.Bool.{false≢true}
use Rattle.std.proofs.lemmas.List.{take_more, map_push}
use Rattle.std.proofs.lemmas.Option.{get_or_from_slice_get, none-some, slice_get-get_or, slice_get_within}
use Rattle.tso_fifo.specs.Orders.{HasOrder, IsOrderOf, order_view}
use Rattle.tso_fifo.specs.declared.order.Placed.{Placed}
use Rattle.tso_hist.specs.Views.{history_view}
use Rattle.tso_hist.specs.declared.call.Call.{Call}
use Rattle.tso_machine.specs.Activations.{Activation}
use Rattle.tso_machine.specs.Machines.{label_of, machine_of}
use Rattle.tso_machine.specs.Places.{first_memory}
use Rattle.tso_machine.specs.Programs.{program_of}
use Rattle.tso_machine.specs.declared.label.Label.{Label}
use Rattle.tso_machine.specs.declared.label.LabelKind.{LabelKind}
use Rattle.tso_machine.specs.declared.label.LabelKind.TheVariants as kinds
use Rattle.tso_machine.specs.declared.machine.Machine.{Machine}
use Rattle.tso_model.proofs.Theorems.{orders_are_linearizations}
use Rattle.tso_model.specs.Events.{Event, event_of, events_of}
use Rattle.tso_model.specs.Labels as model
use Rattle.tso_model.specs.Labels.{Run, Step, first_machine}
use Rattle.tso_model.specs.Linear.{IsLinearization, IsOrder}
use Rattle.tso_model.specs.Objects.{Queue}
use Rattle.tso_model.specs.Programs.{Program}
use Rattle.tso_model.specs.States.{Called, first_history}
use Rattle.tso_model.specs.Views.{after_label, after_labels}
use Rattle.tso_prog.specs.Views.{mode_view}
use Rattle.tso_prog.specs.declared.client.Client.{Client}
use Rattle.tso_show.specs.Unordered.{AreOrdered, IsFirstUnordered, IsOrderFor, counted, is_event}
use Rattle.tso_show.specs.Walks.{IsOn}
use Rattle.tso_trace.proofs.RunLemmas.{leads_more}
use Rattle.tso_trace.specs.Runs.{IsRun, queue_of}

-- ---- walks

-- one more label is taken
pub on_more : (c : Client) (labels : List Label) (k : ℕ) (l : Label) (m m' : Machine) → slice_get labels k ≡ Some l → IsOn c labels k m → Step (program_of c) (machine_of m) (label_of l) (machine_of m')
    → (k < length labels) × IsOn c labels (k + 1) m'
on_more c labels k l m m' found on step =
    let there : k < length labels = slice_get_within labels k l found in
    let same : get_or labels k l ≡ l = get_or_from_slice_get labels k l l found in
    let R : Label → Type 0 = λ x. Step (program_of c) (machine_of m) (label_of x) (machine_of m') in
    (there, record { within = omega (arith, there); leads = leads_more c labels k l there (machine_of m) (machine_of m') on.leads (subst R (sym same) step) })

-- ---- beginnings of runs

record Taken (P : Program Activation) (m : model.Machine Activation) (ls : List Label) : Type 0 where
  pub end : model.Machine Activation
  pub run : Run P m (map label_of ls) end

run_taken : (P : Program Activation) (m end : model.Machine Activation) (ls : List Label) (k : ℕ) → Run P m (map label_of ls) end → Taken P m (take k ls)
run_taken P m end [] zero r = record { end = m; run = refl }
run_taken P m end [] (suc k) r = record { end = m; run = refl }
run_taken P m end (l ∷ ls) zero r = record { end = m; run = refl }
run_taken P m end (l ∷ ls) (suc k) r = let rest = run_taken P r.0 end ls k r.2 in record { end = rest.end; run = (r.0, r.1, rest.run) }

pub run_begins : (c : Client) (ls : List Label) (k : ℕ) → IsRun c ls → IsRun c (take k ls)
run_begins c ls k run =
    let t = run_taken (program_of c) (first_machine (program_of c) (first_memory c.arrays)) run.machine ls k run.leads.run in
    record { machine = t.end; leads = record { run = t.run } }

-- ---- orders

module _ (c : Client) (ls : List Label) (run : IsRun c ls) (h : List (List Call)) (of : history_view h ≡ counted c ls) (n : ℕ) (size : n ≡ c.capacity) where
  -- an order of the history is a linearization of the run
  pub order_serves : (order : List Placed) → IsOrderOf c.mode n h (order_view (history_view h) order) → IsOrderFor c ls order
  order_serves order o =
      let Q : ℕ → Type 0 = λ k. IsOrder (Queue (mode_view c.mode) k) (history_view h) (order_view (history_view h) order) in
      let R : List (List Called) → Type 0 = λ x. IsOrder (queue_of c) x (order_view x order) in
      (orders_are_linearizations Activation (program_of c) (first_memory c.arrays) (map label_of ls) run.machine run.leads.run (queue_of c) (order_view (counted c ls) order)).0
      (subst R of (subst Q size o))

  -- without one the run has none
  pub no_order : (HasOrder c.mode n h → ⊥) → AreOrdered c ls → ⊥
  no_order none linear =
      let Q : ℕ → Type 0 = λ k. IsOrder (Queue (mode_view c.mode) k) (history_view h) linear.0 in
      let R : List (List Called) → Type 0 = λ x. IsOrder (queue_of c) x linear.0 in
      none (
        linear.0,
        subst Q (sym size) (subst R (sym of) ((orders_are_linearizations Activation (program_of c) (first_memory c.arrays) (map label_of ls) run.machine run.leads.run (queue_of c) linear.0).1 linear.1)),
      )

-- nothing is in the order of no calls
pub nothing_serves : (c : Client) (order : List Placed) → order ≡ [] → IsOrderFor c [] order
nothing_serves c [] e = record {
  once = tt;
  begun = λ o h. absurd h;
  own_answers = λ o a h e. absurd h;
  complete = λ thread number a e. absurd (none-some a e);
  in_order = tt;
  allowed = ([], refl);
}
nothing_serves c (o ∷ order) e = cc

events_push : (ls : List model.Label) (l : model.Label) → events_of (ls ++ l ∷ []) ≡ events_of ls ++ event_of l
events_push [] l = append-nil (event_of l)
events_push (x ∷ xs) l = ap (λ (es : List Event). event_of x ++ es) (events_push xs l) ∙ sym (append_assoc (event_of x) (events_of xs) (event_of l))

after_push : (h : List (List Called)) (ls : List model.Label) (l : model.Label) → after_labels h (ls ++ l ∷ []) ≡ after_label (after_labels h ls) l
after_push h [] l = refl
after_push h (x ∷ xs) l = after_push (after_label h x) xs l

-- what is neither a call nor a return
record IsOther (l : model.Label) : Type 0 where
  pub event : event_of l ≡ []
  pub history : (h : List (List Called)) → after_label h l ≡ h

other : (thread : ℕ) (kind : LabelKind) → is_event kind ≡ false → IsOther (label_of (record { thread = thread; kind = kind }))
other thread (kinds.Call kind) e = absurd (false≢true (sym e))
other thread (kinds.Return answer) e = absurd (false≢true (sym e))
other thread kinds.Reg e = record { event = refl; history = λ h. refl }
other thread (kinds.Read place word) e = record { event = refl; history = λ h. refl }
other thread (kinds.Write place word) e = record { event = refl; history = λ h. refl }
other thread (kinds.Drain place word) e = record { event = refl; history = λ h. refl }
other thread kinds.Fence e = record { event = refl; history = λ h. refl }
other thread kinds.Lock e = record { event = refl; history = λ h. refl }
other thread kinds.Unlock e = record { event = refl; history = λ h. refl }
other thread (kinds.Fault kind) e = record { event = refl; history = λ h. refl }

-- it changes no order
pub other_serves : (c : Client) (labels : List Label) (k : ℕ) (d : Label) (order : List Placed) → k < length labels → is_event (get_or labels k d).kind ≡ false
    → IsOrderFor c (take k labels) order → IsOrderFor c (take (k + 1) labels) order
other_serves c labels k d order there quiet serves =
    let l = get_or labels k d in
    let o = other l.thread l.kind quiet in
    let first = first_history (program_of c) in
    let before = map label_of (take k labels) in
    let viewed : map label_of (take (k + 1) labels) ≡ before ++ label_of l ∷ [] = ap (map label_of) (take_more labels k d there) ∙ map_push label_of (take k labels) l in
    let events : events_of (map label_of (take (k + 1) labels)) ≡ events_of before =
    ap events_of viewed ∙ events_push before (label_of l) ∙ ap (λ (es : List Event). events_of before ++ es) o.event ∙ append-nil (events_of before) in
    let history : counted c (take (k + 1) labels) ≡ counted c (take k labels) = ap (after_labels first) viewed ∙ after_push first before (label_of l) ∙ o.history (after_labels first before) in
    let Q : List Event → Type 0 = λ es. IsLinearization (queue_of c) es (order_view (counted c (take k labels)) order) in
    let R : List (List Called) → Type 0 = λ h. IsLinearization (queue_of c) (events_of (map label_of (take (k + 1) labels))) (order_view h order) in
    subst R (sym history) (subst Q (sym events) serves)

-- the first label with which there is none
pub first_unordered : (c : Client) (labels : List Label) (k : ℕ) (d : Label) (order : List Placed) → k < length labels → IsOrderFor c (take k labels) order → (AreOrdered c (take (k + 1) labels) → ⊥)
    → IsFirstUnordered c labels (k + 1) order
first_unordered c labels k d order there before none = record {
  position = k;
  label = get_or labels k d;
  there = slice_get-get_or labels k d there;
  counted = refl;
  before = before;
  none = none;
}
