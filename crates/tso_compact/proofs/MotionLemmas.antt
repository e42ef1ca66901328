-- What a running call does next, joined to its thread.
use Rattle.std.proofs.Common.{◌≡◌, ◌∙◌, ℕ, List, map, Option, Some, None, IfSome, sym, ap, subst}
use Rattle.tso_compact.specs.Motions.{core_labels, labels_in, running_thread}
use Rattle.tso_compact.specs.declared.motion.Motion.{Motion}
use Rattle.tso_flow.specs.declared.location.ProcedureKind.{ProcedureKind}
use Rattle.tso_machine.specs.Activations.{Activation, activation}
use Rattle.tso_machine.specs.Machines.{entry_view}
use Rattle.tso_machine.specs.declared.frame.Frame.{Frame}
use Rattle.tso_model.specs.Programs.{Action, CallKind, Program}
use Rattle.tso_model.specs.StepLabels.{labels_of_action}
use Rattle.tso_state.specs.Views.{core_view}
use Rattle.tso_state.specs.declared.state.Core.{Core}
use Rattle.tso_state.specs.declared.state.Core.TheVariants.{Running}
use Rattle.tso_state.specs.declared.state.Thread.{Thread}

-- the labels of a running thread's instruction are those of its core
pub running_labels : (p : Program Activation) (memory : List ℕ) (i : ℕ) (call : Option CallKind) (name : ProcedureKind) (t : Thread) (f : Frame) (x : Action Activation) (r : Option Motion)
    → t.core ≡ Running f → x ≡ p.next (activation name f)
    → IfSome r (λ m. labels_in memory i (running_thread f t.buffer) m ≡ labels_of_action memory i (map entry_view t.buffer) x)
    → IfSome r (λ m. labels_in memory i t m ≡ core_labels p memory i call (map entry_view t.buffer) (core_view name t.core))
running_labels p memory i call name t f x None running next labels = labels
running_labels p memory i call name t f x (Some m) running next labels =
    let Q : Core → Type 0 = λ c. labels_in memory i (record { core = c; buffer = t.buffer }) m ≡ core_labels p memory i call (map entry_view t.buffer) (core_view name c) in
    subst Q (sym running) (labels ∙ ap (λ a. labels_of_action memory i (map entry_view t.buffer) a) next)
