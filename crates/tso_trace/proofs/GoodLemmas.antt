-- When a run is good.
use Rattle.std.proofs.Common.{◌≡◌, ◌∙◌, ℕ, Bool, true, false, ◌||◌, Option, Some, None, IfSome, IfNone, List, [], ◌∷◌, map, refl, sym, ap, subst, inl, inr, ◌↔◌, cond, arith, length}
use Rattle.std.proofs.lemmas.Bool.{false≢true}
use Rattle.std.proofs.lemmas.Option.{none-some}
use Rattle.std.specs.List.{find}
use Rattle.std.specs.Option.{option_map}
use Rattle.tso_prog.specs.declared.client.Client.{Client}
use Rattle.tso_machine.specs.Activations.{Activation}
use Rattle.tso_machine.specs.Machines.{label_of}
use Rattle.tso_machine.specs.Places.{first_memory}
use Rattle.tso_machine.specs.Programs.{program_of}
use Rattle.tso_machine.specs.declared.label.Label.{Label}
use Rattle.tso_machine.specs.declared.label.LabelKind.{LabelKind}
use Rattle.tso_machine.specs.declared.label.LabelKind.TheVariants as kinds
use Rattle.tso_model.proofs.Theorems.{orders_are_linearizations}
use Rattle.tso_model.specs.Faults.{HasFaultOf, IsFaultOf}
use Rattle.tso_model.specs.Events.{events_of}
use Rattle.tso_model.specs.Labels.{first_machine}
use Rattle.tso_model.specs.Linear.{IsLinearizable, IsLinearization, IsOrder, Placed}
use Rattle.tso_model.specs.Objects.{Object, Queue}
use Rattle.tso_prog.specs.Views.{mode_view}
use Rattle.tso_model.specs.States.{Called, first_history}
use Rattle.tso_model.specs.Views.{after_labels}
use Rattle.tso_trace.specs.Runs.{IsErrorTrace, IsGoodRun, IsRun, first_fault, has_fault, is_fault, queue_of}

-- a label that is a fault, as the model has it
fault_of : (thread : ℕ) (kind : LabelKind) → is_fault kind ≡ true → IsFaultOf (label_of (record { thread = thread; kind = kind })) thread
fault_of thread (kinds.Fault kind) e = refl
fault_of thread (kinds.Call kind) e = absurd (false≢true e)
fault_of thread kinds.Reg e = absurd (false≢true e)
fault_of thread (kinds.Read place word) e = absurd (false≢true e)
fault_of thread (kinds.Write place word) e = absurd (false≢true e)
fault_of thread (kinds.Drain place word) e = absurd (false≢true e)
fault_of thread kinds.Fence e = absurd (false≢true e)
fault_of thread kinds.Lock e = absurd (false≢true e)
fault_of thread kinds.Unlock e = absurd (false≢true e)
fault_of thread (kinds.Return answer) e = absurd (false≢true e)

no_fault_of : (thread i : ℕ) (kind : LabelKind) → is_fault kind ≡ false → IsFaultOf (label_of (record { thread = thread; kind = kind })) i → ⊥
no_fault_of thread i (kinds.Fault kind) e f = false≢true (sym e)
no_fault_of thread i (kinds.Call kind) e f = f
no_fault_of thread i kinds.Reg e f = f
no_fault_of thread i (kinds.Read place word) e f = f
no_fault_of thread i (kinds.Write place word) e f = f
no_fault_of thread i (kinds.Drain place word) e f = f
no_fault_of thread i kinds.Fence e f = f
no_fault_of thread i kinds.Lock e f = f
no_fault_of thread i kinds.Unlock e f = f
no_fault_of thread i (kinds.Return answer) e f = f

left_false : (x y : Bool) → (x || y) ≡ false → x ≡ false
left_false false y e = refl
left_false true y e = e

right_false : (x y : Bool) → (x || y) ≡ false → y ≡ false
right_false false y e = e
right_false true y e = absurd (false≢true (sym e))

-- where a test finds a fault, some thread has one
split : (l : Label) (ls : List Label) (here : Bool) → is_fault l.kind ≡ here → has_fault (l ∷ ls) ≡ true
    → ((has_fault ls ≡ true) → (i : ℕ) × HasFaultOf (map label_of ls) i) → (i : ℕ) × HasFaultOf (map label_of (l ∷ ls)) i
split l ls true e found rest = (l.thread, inl (fault_of l.thread l.kind e))
split l ls false e found rest =
    let more : has_fault ls ≡ true = sym (ap (λ (b : Bool). b || has_fault ls) e) ∙ found in
    let one = rest more in
    (one.0, inr one.1)

pub some_fault : (ls : List Label) → has_fault ls ≡ true → (i : ℕ) × HasFaultOf (map label_of ls) i
some_fault [] e = absurd (false≢true e)
some_fault (l ∷ ls) e = split l ls (is_fault l.kind) refl e (some_fault ls)

pub no_fault : (ls : List Label) → has_fault ls ≡ false → (i : ℕ) → HasFaultOf (map label_of ls) i → ⊥
no_fault [] e i f = f
no_fault (l ∷ ls) e i (inl f) = no_fault_of l.thread i l.kind (left_false (is_fault l.kind) (has_fault ls) e) f
no_fault (l ∷ ls) e i (inr f) = no_fault ls (right_false (is_fault l.kind) (has_fault ls) e) i f

-- a run with a fault is an error
pub faults_err : (c : Client) (ls : List Label) → has_fault ls ≡ true → IsGoodRun c ls → ⊥
faults_err c ls e good = let found = some_fault ls e in good.0 found.0 found.1

module _ (c : Client) (ls : List Label) (run : IsRun c ls) (h : List (List Called)) (of : h ≡ after_labels (first_history (program_of c)) (map label_of ls)) (n : ℕ) (size : n ≡ c.capacity) where
  abbrev object : Object
  object = Queue (mode_view c.mode) n

  abbrev counted : List (List Called)
  counted = after_labels (first_history (program_of c)) (map label_of ls)

  linear : (order : List Placed) → IsOrder (queue_of c) counted order ↔ IsLinearization (queue_of c) (events_of (map label_of ls)) order
  linear order = orders_are_linearizations Activation (program_of c) (first_memory c.arrays) (map label_of ls) run.machine run.leads.run (queue_of c) order

  to_counted : (order : List Placed) → IsOrder object h order → IsOrder (queue_of c) counted order
  to_counted order o =
      let Q : ℕ → Type 0 = λ k. IsOrder (Queue (mode_view c.mode) k) h order in
      let R : List (List Called) → Type 0 = λ x. IsOrder (queue_of c) x order in
      subst R of (subst Q size o)

  from_counted : (order : List Placed) → IsOrder (queue_of c) counted order → IsOrder object h order
  from_counted order o =
      let Q : ℕ → Type 0 = λ k. IsOrder (Queue (mode_view c.mode) k) h order in
      let R : List (List Called) → Type 0 = λ x. IsOrder (queue_of c) x order in
      subst Q (sym size) (subst R (sym of) o)

  -- without a fault, an order of its history makes a run good
  pub order_is_good : has_fault ls ≡ false → (order : List Placed) → IsOrder object h order → IsGoodRun c ls
  order_is_good e order o = (no_fault ls e, (order, (linear order).0 (to_counted order o)))

  -- where the history has no order, the run is an error
  pub no_order_errs : ((order : List Placed) → IsOrder object h order → ⊥) → IsGoodRun c ls → ⊥
  no_order_errs none good = none good.1.0 (from_counted good.1.0 ((linear good.1.0).1 good.1.1))

-- what is said of an answer, where there is one
pub when_some : {X : Type 0} (r : Option X) (x : X) (P : X → Type 0) → r ≡ Some x → IfSome r P → P x
when_some r x P e p = subst (λ o. IfSome o P) e p

-- and where there is none
pub when_none : {X : Type 0} (r : Option X) (P : Type 0) → r ≡ None → IfNone r P → P
when_none r P e p = subst (λ o. IfNone o P) e p

-- a run that is not good, of a client and its copy
pub erring_copy : (c c' : Client) (ls labels noted kept : List Label) → c' ≡ c → noted ≡ labels → ls ≡ labels → kept ≡ labels
    → IsRun c ls → (IsGoodRun c noted → ⊥) → IsErrorTrace c' kept
erring_copy c c' ls labels noted kept same noted_is ls_is kept_is run errs =
    let E : Client → List Label → Type 0 = λ d xs. IsErrorTrace d xs in
    let Q : List Label → Type 0 = λ xs. IsRun c xs in
    let R : List Label → Type 0 = λ xs. IsGoodRun c xs → ⊥ in
    let here : IsErrorTrace c labels = record { run = subst Q ls_is run; errs = subst R noted_is errs } in
    let C : Client → Type 0 = λ d. IsErrorTrace d labels in
    let K : List Label → Type 0 = λ xs. IsErrorTrace c' xs in
    subst K (sym kept_is) (subst C (sym same) here)

-- where no thread is told, no fault stands in the run
first_is : (l : Label) (ls : List Label) (here : Bool) → is_fault l.kind ≡ here → first_fault (l ∷ ls) ≡ None → (first_fault ls ≡ None → has_fault ls ≡ false) → has_fault (l ∷ ls) ≡ false
first_is l ls true is e rest = absurd (none-some _ (sym e ∙ ap (λ (b : Bool). option_map (λ (x : Label). x.thread) (cond b (Some l) (find (λ (x : Label). is_fault x.kind) ls))) is))
first_is l ls false is e rest =
    ap (λ (b : Bool). b || has_fault ls) is
    ∙ rest (sym (ap (λ (b : Bool). option_map (λ (x : Label). x.thread) (cond b (Some l) (find (λ (x : Label). is_fault x.kind) ls))) is) ∙ e)

pub no_thread : (ls : List Label) → first_fault ls ≡ None → has_fault ls ≡ false
no_thread [] e = refl
no_thread (l ∷ ls) e = first_is l ls (is_fault l.kind) refl e (no_thread ls)

-- then its calls have no linearization
pub errs_unordered : (c : Client) (ls : List Label) → IsErrorTrace c ls → first_fault ls ≡ None → IsLinearizable (queue_of c) (events_of (map label_of ls)) → ⊥
errs_unordered c ls erring e linearizable = erring.errs (no_fault ls (no_thread ls e), linearizable)

-- a run without a label is good
nothing_is_good : (c : Client) → IsRun c [] × IsGoodRun c []
nothing_is_good c = (
  record { machine = first_machine (program_of c) (first_memory c.arrays); leads = record { run = refl } },
  (
    λ i f. f,
    (
      [],
      record {
        once = tt;
        begun = λ o h. absurd h;
        own_answers = λ o a h e. absurd h;
        complete = λ thread number a e. absurd (none-some a e);
        in_order = tt;
        allowed = ([], refl);
      },
    ),
  ),
)

pub empty_is_good : (c : Client) (labels : List Label) → length labels ≡ 0 → IsRun c labels × IsGoodRun c labels
empty_is_good c [] none = nothing_is_good c
empty_is_good c (l ∷ labels) none = absurd (omega arith)
