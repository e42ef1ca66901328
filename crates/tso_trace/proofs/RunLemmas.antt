-- Runs grow by one label.
use Rattle.std.proofs.Common.{◌≡◌, ◌∙◌, ℕ, zero, suc, arith, Some, slice_get, ◌+◌, ◌<◌, List, [], ◌∷◌, ◌++◌, length, map, take, get_or, refl, sym, ap, subst}
use Rattle.std.proofs.lemmas.List.{take_more, map_push}
use Rattle.tso_prog.specs.declared.client.Client.{Client}
use Rattle.tso_machine.specs.Activations.{Activation}
use Rattle.tso_machine.specs.Machines.{label_of}
use Rattle.tso_machine.specs.Places.{first_memory}
use Rattle.tso_machine.specs.Programs.{program_of}
use Rattle.tso_machine.specs.Stepping.{IsNoStep}
use Rattle.tso_machine.specs.declared.label.Label.{Label}
use Rattle.tso_model.proofs.Labelled.{run_append}
use Rattle.tso_model.specs.Labels as model
use Rattle.tso_model.specs.Labels.{Machine, Run, Step, first_machine}
use Rattle.tso_trace.specs.Runs.{IsFirstNonStep, LeadsTo}

some_at : {X : Type 0} (xs : List X) (k : ℕ) (d : X) → k < length xs → slice_get xs k ≡ Some (get_or xs k d)
some_at [] k d there = absurd (omega arith)
some_at (x ∷ xs) zero d there = refl
some_at (x ∷ xs) (suc k) d there = some_at xs k d (omega arith)

module _ (c : Client) (labels : List Label) (k : ℕ) (d : Label) (there : k < length labels) where
  pub leads_more : (m m' : Machine Activation) → LeadsTo c (take k labels) m → Step (program_of c) m (label_of (get_or labels k d)) m'
      → LeadsTo c (take (k + 1) labels) m'
  leads_more m m' before step =
      let l = get_or labels k d in
      let first = first_machine (program_of c) (first_memory c.arrays) in
      let one : Run (program_of c) m (label_of l ∷ []) m' = (m', step, refl) in
      let more : take (k + 1) labels ≡ take k labels ++ l ∷ [] = take_more labels k d there in
      let viewed : map label_of (take (k + 1) labels) ≡ map label_of (take k labels) ++ label_of l ∷ [] = ap (map label_of) more ∙ map_push label_of (take k labels) l in
      let Q : List model.Label → Type 0 = λ ls. Run (program_of c) first ls m' in
      record { run = subst Q (sym viewed) (run_append (program_of c) first m m' (map label_of (take k labels)) (label_of l ∷ []) before.run one) }

  pub first_non_step : (m : Machine Activation) → LeadsTo c (take k labels) m → IsNoStep (program_of c) m (label_of (get_or labels k d)) → IsFirstNonStep c labels (k + 1)
  first_non_step m before none = record {
    position = k;
    label = get_or labels k d;
    machine = m;
    there = some_at labels k d there;
    counted = refl;
    leads = before;
    none = none;
  }
