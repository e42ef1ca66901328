-- A run goes on to each of its labels, so a walk along it stops at its end alone.
use Rattle.std.proofs.Common.{◌≡◌, ◌∙◌, ℕ, zero, suc, Some, slice_get, List, [], ◌∷◌, length, map, take, sym, ap, subst}
use Rattle.std.proofs.lemmas.Option.{same_Some, none-some}
use Rattle.tso_prog.specs.declared.client.Client.{Client}
use Rattle.tso_machine.specs.Activations.{Activation}
use Rattle.tso_machine.specs.Machines.{label_of, machine_of}
use Rattle.tso_machine.specs.Places.{first_memory}
use Rattle.tso_machine.specs.Programs.{program_of}
use Rattle.tso_machine.specs.Stepping.{IsNoStep}
use Rattle.tso_machine.specs.declared.back.Undo.{Undo}
use Rattle.tso_machine.specs.declared.label.Label.{Label}
use Rattle.tso_machine.specs.declared.machine.Machine.{Machine as Here}
use Rattle.tso_model.proofs.Offered.{steps_are_offers}
use Rattle.tso_model.specs.Labels as model
use Rattle.tso_model.specs.Labels.{By, Machine, Run, Step, first_machine}
use Rattle.tso_model.specs.Offers.{Next}
use Rattle.tso_model.specs.Programs.{Program}
use Rattle.tso_trace.specs.Runs.{IsErrorTrace}
use Rattle.tso_trace.specs.Walks.{IsAt}
use Rattle.tso_trace.proofs.WalkLemmas.{stands}

pub same_machine : (p : Program Activation) (m : Machine Activation) (l : model.Label) (a b : Machine Activation) → Step p m l a → Step p m l b → a ≡ b
same_machine p m (By i k) a b s t =
    let e = (steps_are_offers p m i k a).0 s in
    let f = (steps_are_offers p m i k b).0 t in
    ap (λ (n : Next Activation). n.machine) (same_Some _ _ (sym e ∙ f))

pub goes_on : (p : Program Activation) (first : Machine Activation) (ls : List Label) (k : ℕ) (l : Label) (end m : Machine Activation)
    → Run p first (map label_of ls) end → Run p first (map label_of (take k ls)) m → slice_get ls k ≡ Some l → IsNoStep p m (label_of l) → ⊥
goes_on p first [] k l end m whole part found none = none-some l found
goes_on p first (h ∷ ls) zero l end m whole part found none =
    let Q : Label → Type 0 = λ x. Step p first (label_of x) whole.0 in
    let R : Machine Activation → Type 0 = λ x. Step p x (label_of l) whole.0 in
    none whole.0 (subst R (sym part) (subst Q (same_Some h l found) whole.1))
goes_on p first (h ∷ ls) (suc k) l end m whole part found none =
    let Q : Machine Activation → Type 0 = λ x. Run p x (map label_of ls) end in
    goes_on p part.0 ls k l end m (subst Q (same_machine p first (label_of h) whole.0 part.0 whole.1 part.1) whole.2) part.2 found none

-- the label behind those that are taken is a step
pub never_stuck : (c : Client) (labels : List Label) (us : List Undo) (m : Here) (l : Label) → IsErrorTrace c labels → IsAt c labels us m
    → slice_get labels (length us) ≡ Some l → IsNoStep (program_of c) (machine_of m) (label_of l) → ⊥
never_stuck c labels us m l erring at found none =
    goes_on (program_of c) (first_machine (program_of c) (first_memory c.arrays)) labels (length us) l erring.run.machine (machine_of m) erring.run.leads.run
    (stands c labels us m at).run found none
