-- Labels and offers: a label is a step exactly where the thread offers it.
use Rattle.std.proofs.Common.{◌≡◌, ◌∙◌, ℕ, false, Some, None, slice_get, map, refl, sym, ap}
use Rattle.std.specs.Option.{option_map}
use Rattle.std.proofs.lemmas.Option.{slice_get-map}
use Rattle.tso_line.specs.declared.instruction.CallKind.TheVariants as calls
use Rattle.tso_prog.specs.declared.answer.Answer.TheVariants as answers
use Rattle.tso_machine.specs.Activations.{Activation}
use Rattle.tso_machine.specs.Changes.{thread_after, FitsChange}
use Rattle.tso_machine.specs.Machines.{kind_view, label_of, machine_of, thread_view}
use Rattle.tso_machine.specs.Offers.{next_of, performed}
use Rattle.tso_machine.specs.Stepping.{is_drain, IsNoStep, IsOffered}
use Rattle.tso_machine.specs.declared.action.FaultKind.TheVariants as faults
use Rattle.tso_machine.specs.declared.label.Label.{Label}
use Rattle.tso_machine.specs.declared.label.LabelKind.{LabelKind}
use Rattle.tso_machine.specs.declared.label.LabelKind.TheVariants as kinds
use Rattle.tso_machine.specs.declared.machine.Machine.{Machine}
use Rattle.tso_machine.specs.declared.machine.Thread.{Thread}
use Rattle.tso_machine.specs.declared.offer.Offer.{Offer}
use Rattle.tso_model.proofs.Offered.{steps_are_offers}
use Rattle.tso_model.specs.Labels as model
use Rattle.tso_model.specs.Offers.{actor_of, offer, Next}
use Rattle.tso_model.specs.Programs as programs
use Rattle.tso_model.specs.Steps as steps

-- a kind of label is known from what the model sees of it
kind_back : model.Kind → LabelKind
kind_back (model.Call (programs.Push v)) = kinds.Call (calls.Push v)
kind_back (model.Call programs.Pop) = kinds.Call calls.Pop
kind_back model.Reg = kinds.Reg
kind_back (model.Read place word) = kinds.Read place word
kind_back (model.Write place word) = kinds.Write place word
kind_back (model.Drain place word) = kinds.Drain place word
kind_back model.Fence = kinds.Fence
kind_back model.Lock = kinds.Lock
kind_back model.Unlock = kinds.Unlock
kind_back (model.Return programs.Refused) = kinds.Return answers.Refused
kind_back (model.Return programs.Done) = kinds.Return answers.Done
kind_back (model.Return (programs.Value w)) = kinds.Return (answers.Value w)
kind_back (model.Fault programs.OutOfRange) = kinds.Fault faults.OutOfRange
kind_back (model.Fault programs.FalseAssertion) = kinds.Fault faults.FalseAssertion
kind_back (model.Fault programs.BadAnswer) = kinds.Fault faults.BadAnswer

back_view : (k : LabelKind) → kind_back (kind_view k) ≡ k
unfolding kind_back
back_view (kinds.Call (calls.Push v)) = refl
back_view (kinds.Call calls.Pop) = refl
back_view kinds.Reg = refl
back_view (kinds.Read place word) = refl
back_view (kinds.Write place word) = refl
back_view (kinds.Drain place word) = refl
back_view kinds.Fence = refl
back_view kinds.Lock = refl
back_view kinds.Unlock = refl
back_view (kinds.Return answers.Refused) = refl
back_view (kinds.Return answers.Done) = refl
back_view (kinds.Return (answers.Value w)) = refl
back_view (kinds.Fault faults.OutOfRange) = refl
back_view (kinds.Fault faults.FalseAssertion) = refl
back_view (kinds.Fault faults.BadAnswer) = refl

pub same_kind : (a b : LabelKind) → kind_view a ≡ kind_view b → a ≡ b
same_kind a b e = sym (back_view a) ∙ ap kind_back e ∙ back_view b

-- a label that is no drain is its thread's own
pub actor_of_core : (i : ℕ) (k : LabelKind) → is_drain k ≡ false → actor_of (model.By i (kind_view k)) ≡ steps.Exec i
actor_of_core i (kinds.Call k) e = refl
actor_of_core i kinds.Reg e = refl
actor_of_core i (kinds.Read place word) e = refl
actor_of_core i (kinds.Write place word) e = refl
actor_of_core i (kinds.Drain place word) e = cc
actor_of_core i kinds.Fence e = refl
actor_of_core i kinds.Lock e = refl
actor_of_core i kinds.Unlock e = refl
actor_of_core i (kinds.Return answer) e = refl
actor_of_core i (kinds.Fault kind) e = refl

module _ (p : programs.Program Activation) (m : Machine) (l : Label) where
  pub step_of : (t : Thread) (o : Offer) → slice_get m.threads l.thread ≡ Some t → FitsChange t o.change → o.kind ≡ l.kind
      → offer p (machine_of m) (actor_of (label_of l)) ≡ Some (next_of m l.thread t o) → IsOffered p m l o
  step_of t o there fits kind e =
      let after = machine_of (performed m l.thread o.kind (thread_after t o.change)) in
      let next : model.Kind → Next Activation = λ k. record { kind = k; machine = after } in
      let e' : offer p (machine_of m) (actor_of (label_of l)) ≡ Some (next (kind_view l.kind)) = e ∙ ap (λ k. Some (next (kind_view k))) kind in
      record { thread = t; there = there; fits = fits; step = (steps_are_offers p (machine_of m) l.thread (kind_view l.kind) after).1 e' }

  pub none_is_no_step : offer p (machine_of m) (actor_of (label_of l)) ≡ None → IsNoStep p (machine_of m) (label_of l)
  none_is_no_step e after s = let f = (steps_are_offers p (machine_of m) l.thread (kind_view l.kind) after).0 s in cc

  pub other_is_no_step : (t : Thread) (o : Offer) → (o.kind ≡ l.kind → ⊥)
      → offer p (machine_of m) (actor_of (label_of l)) ≡ Some (next_of m l.thread t o) → IsNoStep p (machine_of m) (label_of l)
  other_is_no_step t o other e after s =
      let f = (steps_are_offers p (machine_of m) l.thread (kind_view l.kind) after).0 s in
      let kinds_same : kind_view o.kind ≡ kind_view l.kind = kind_of_some (next_of m l.thread t o) (record { kind = kind_view l.kind; machine = after }) (sym e ∙ f) in
      other (same_kind o.kind l.kind kinds_same)
    where
      kind_of_some : (a b : Next Activation) → Some a ≡ Some b → a.kind ≡ b.kind
      kind_of_some a b g = let h : a ≡ b = cc in ap (λ (n : Next Activation). n.kind) h

  pub no_thread_is_no_step : slice_get m.threads l.thread ≡ None → IsNoStep p (machine_of m) (label_of l)
  no_thread_is_no_step e after s =
      let none : slice_get (map thread_view m.threads) l.thread ≡ None = slice_get-map thread_view m.threads l.thread ∙ ap (option_map thread_view) e in
      let some = s.1 in
      cc
