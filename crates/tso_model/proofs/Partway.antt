-- A machine belongs to a compact state by labels alone, and ended runs end where compact steps do.
use Rattle.std.proofs.Common.{◌≡◌, ◌≤◌, ◌⊎◌, ℕ, List, take, refl, inl, inr, arith}
use Rattle.tso_model.specs.Labels.{Label, Run, machine_of}
use Rattle.tso_model.specs.Programs.{Locked, Program}
use Rattle.tso_model.specs.Relation.{DidDrain, DidRead, DidWrite, Fits, Free, IsOpen, Open, Part, Phase, Section, TookLock, in_phase, inside}
use Rattle.tso_model.specs.Simulation.{BelongsByLabels, EndedRunsEndAlike, IsPartway}
use Rattle.tso_model.specs.States.{State}
use Rattle.tso_model.specs.StepLabels.{labels_of, labels_of_action}
use Rattle.tso_model.specs.Steps.{Exec}
use Rattle.tso_model.proofs.Follow.{runs_are_followed}
use Rattle.tso_model.proofs.Held.{with_part}
use Rattle.tso_model.proofs.Labelled.{did_drain, did_read, did_write, ends_are_ends, took_lock}

module _ {F : Type 0} where
  -- the five labels of the section's instruction
  abbrev all_labels : State F → Section F → List Label
  all_labels c s = labels_of_action c.memory s.holder s.thread.buffer (Locked s.place s.new s.after)

  section_labels : (P : Program F) (c : State F) (s : Section F) → IsOpen P c s → labels_of P c (Exec s.holder) ≡ all_labels c s
  section_labels P c s o = rw (o.at, o.running, o.locked) refl

  partway : (P : Program F) (c : State F) (s : Section F) (part : Part) (n : ℕ) → IsOpen P c s → 1 ≤ n → n ≤ 4
      → Run P (machine_of c) (take n (all_labels c s)) (inside c (with_part s part)) → IsPartway P (inside c (with_part s part)) c
  partway P c s part n o low high run =
      record { holder = s.holder; count = n; at_least = low; at_most = high; five = rw (section_labels P c s o) refl; held = refl; run = rw (section_labels P c s o) run }

  by_labels : (P : Program F) (c : State F) (s : Section F) (part : Part) → IsOpen P c s → IsPartway P (inside c (with_part s part)) c
  by_labels P c s TookLock o = partway P c s TookLock 1 o (omega arith) (omega arith) (inside c (with_part s TookLock), took_lock P c s o, refl)
  by_labels P c s DidRead o = partway P c s DidRead 2 o (omega arith) (omega arith)
      (inside c (with_part s TookLock), took_lock P c s o, (inside c (with_part s DidRead), did_read P c s o, refl))
  by_labels P c s DidWrite o = partway P c s DidWrite 3 o (omega arith) (omega arith)
      (inside c (with_part s TookLock), took_lock P c s o, (inside c (with_part s DidRead), did_read P c s o, (inside c (with_part s DidWrite), did_write P c s o, refl)))
  by_labels P c s DidDrain o = partway P c s DidDrain 4 o (omega arith) (omega arith)
      (inside c (with_part s TookLock), took_lock P c s o, (inside c (with_part s DidRead), did_read P c s o, (inside c (with_part s DidWrite), did_write P c s o, (inside c (with_part s DidDrain), did_drain P c s o, refl))))

  phase_labels : (P : Program F) (c : State F) (phase : Phase F) → Fits P c phase → (in_phase c phase ≡ machine_of c) ⊎ IsPartway P (in_phase c phase) c
  phase_labels P c Free s = inl refl
  phase_labels P c (Open s) o = inr (by_labels P c s s.part o)

  pub belongs_by_labels : BelongsByLabels F
  belongs_by_labels P m c b = rw b.2 (phase_labels P c b.0 b.1)

  pub ended_runs_end_alike : EndedRunsEndAlike F
  ended_runs_end_alike P memory ls m run ended =
      let x = runs_are_followed F P memory ls m run in
      let y = ends_are_ends P m x.state x.belongs ended in
      record { actors = x.actors; state = x.state; steps = x.steps; over = y.1; machine = y.0; same = x.same }
