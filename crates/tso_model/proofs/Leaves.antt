-- A list of compact steps is a run of labels, with the same history.
use Rattle.std.proofs.Common.{◌≡◌, ℕ, List, [], ◌∷◌, ◌++◌, length, slice_get, slice_set, refl, sym, ◌∙◌, ap, subst, Option, Some, None}
use Rattle.std.proofs.lemmas.Option.{none-some, same_Some}
use Rattle.std.proofs.lemmas.List.{length-set}
use Rattle.tso_model.specs.Labels.{By, Call, Drain, Fault, Fence, Label, Read, Reg, Return, Write, after_label, after_labels, machine_of}
use Rattle.tso_model.specs.Programs.{Action, Barrier, CallKind, Cut, Fail, Load, Locked, Program, Ret, Silent, Store}
use Rattle.tso_model.specs.Prologue.{next_call}
use Rattle.tso_model.specs.Relation.{IsShaped}
use Rattle.tso_model.specs.StepLabels.{StepsGiveRuns, labels_of, labels_of_action, labels_of_call, labels_of_core, labels_of_drain, labels_of_entry, labels_of_exec}
use Rattle.tso_model.specs.States.{Called, CompactCore, Resting, Executing, State, Halted, CompactThread, word_seen}
use Rattle.tso_model.specs.Steps.{Actor, Drains, Exec, step}
use Rattle.tso_model.proofs.Labelled.{do_action, do_call, do_core, do_drain, do_drains, do_exec, run_append, steps_are_runs, when_empty_some}
use Rattle.tso_model.proofs.Local.{shaped_put}

-- the history after two lists of labels
after_both : (h : List (List Called)) (xs ys : List Label) → after_labels h (xs ++ ys) ≡ after_labels (after_labels h xs) ys
after_both h [] ys = refl
after_both h (x ∷ xs) ys = after_both (after_label h x) xs ys

module _ {F : Type 0} where
  -- what a step leaves: the history that its labels give, for each thread
  abbrev Leaves : State F → List Label → State F → Type 0
  Leaves c ls d = (d.history ≡ after_labels c.history ls) × IsShaped d

  leaves : (c x d : State F) (ls : List Label) → Some x ≡ Some d → x.history ≡ after_labels c.history ls → IsShaped x → Leaves c ls d
  leaves c x d ls e h s = let q = same_Some x d e in (ap (λ (y : State F). y.history) (sym q) ∙ h, subst IsShaped q s)

  shaped_one : (c : State F) (i : ℕ) (t : CompactThread F) → IsShaped c → length c.history ≡ length (slice_set c.threads i t)
  shaped_one c i t s = s ∙ sym (length-set c.threads i t)

  leaves_action : (c : State F) (i : ℕ) (t : CompactThread F) (d : State F) → IsShaped c → (a : Action F) → do_action c i t a ≡ Some d → Leaves c (labels_of_action c.memory i t.buffer a) d
  leaves_action c i t d s (Silent g) e = leaves c _ d (By i Reg ∷ []) e refl (shaped_one c i _ s)
  leaves_action c i t d s (Load p k) e = leaves c _ d (By i (Read p (word_seen t.buffer c.memory p)) ∷ []) e refl (shaped_one c i _ s)
  leaves_action c i t d s (Store p v g) e = leaves c _ d (By i (Write p v) ∷ []) e refl (shaped_one c i _ s)
  leaves_action c i t d s (Barrier g) e = leaves c _ d (By i Fence ∷ []) (when_empty_some t.buffer c d i _ e).1 refl (shaped_one c i _ s)
  leaves_action c i t d s (Locked p n k) e = leaves c _ d (labels_of_action c.memory i t.buffer (Locked p n k)) (when_empty_some t.buffer c d i _ e).1 refl (shaped_one c i _ s)
  leaves_action c i t d s (Ret a) e = leaves c _ d (By i (Return a) ∷ []) e refl (shaped_put c i _ _ s)
  leaves_action c i t d s (Fail n) e = leaves c _ d (By i (Fault n) ∷ []) e refl (shaped_one c i _ s)
  leaves_action c i t d s Cut e = absurd (none-some d e)

  leaves_call : (P : Program F) (c : State F) (i : ℕ) (t : CompactThread F) (d : State F) → IsShaped c → (o : Option CallKind) → do_call P c i t o ≡ Some d → Leaves c (labels_of_call i o) d
  leaves_call P c i t d s None e = absurd (none-some d e)
  leaves_call P c i t d s (Some k) e = leaves c _ d (By i (Call k) ∷ []) e refl (shaped_put c i _ _ s)

  leaves_core : (P : Program F) (c : State F) (i : ℕ) (t : CompactThread F) (d : State F) → IsShaped c → (o : CompactCore F) → do_core P c i t o ≡ Some d → Leaves c (labels_of_core P c i t.buffer o) d
  leaves_core P c i t d s Resting e = leaves_call P c i t d s (next_call P c i) e
  leaves_core P c i t d s (Executing f) e = leaves_action c i t d s (P.next f) e
  leaves_core P c i t d s Halted e = absurd (none-some d e)

  leaves_exec : (P : Program F) (c : State F) (i : ℕ) (d : State F) → IsShaped c → (o : Option (CompactThread F)) → do_exec P c i o ≡ Some d → Leaves c (labels_of_exec P c i o) d
  leaves_exec P c i d s None e = absurd (none-some d e)
  leaves_exec P c i d s (Some t) e = leaves_core P c i t d s t.core e

  leaves_entry : (c : State F) (i : ℕ) (t : CompactThread F) (d : State F) → IsShaped c → (b : List (ℕ × ℕ)) → do_drain c i t b ≡ Some d → Leaves c (labels_of_entry i b) d
  leaves_entry c i t d s [] e = absurd (none-some d e)
  leaves_entry c i t d s (x ∷ rest) e = leaves c _ d (By i (Drain x.0 x.1) ∷ []) e refl (shaped_one c i _ s)

  leaves_drains : (c : State F) (i : ℕ) (d : State F) → IsShaped c → (o : Option (CompactThread F)) → do_drains c i o ≡ Some d → Leaves c (labels_of_drain i o) d
  leaves_drains c i d s None e = absurd (none-some d e)
  leaves_drains c i d s (Some t) e = leaves_entry c i t d s t.buffer e

  pub step_leaves : (P : Program F) (c : State F) (a : Actor) (d : State F) → IsShaped c → step P c a ≡ Some d → Leaves c (labels_of P c a) d
  step_leaves P c (Exec i) d s e = leaves_exec P c i d s (slice_get c.threads i) e
  step_leaves P c (Drains i) d s e = leaves_drains c i d s (slice_get c.threads i) e

  pub steps_give_runs : StepsGiveRuns F
  steps_give_runs P c [] d s e = ([], ap machine_of (sym e), ap (λ (y : State F). y.history) (sym e), subst IsShaped e s)
  steps_give_runs P c (a ∷ actors) d s e =
      let x = step_leaves P c a e.0 s e.1 in
      let y = steps_give_runs P e.0 actors d x.1 e.2 in (
        labels_of P c a ++ y.0,
        run_append P (machine_of c) (machine_of e.0) (machine_of d) (labels_of P c a) y.0 (steps_are_runs P c a e.0 s e.1) y.1,
        y.2 ∙ (ap (λ h. after_labels h y.0) x.0 ∙ sym (after_both c.history (labels_of P c a) y.0)),
        y.3,
      )
