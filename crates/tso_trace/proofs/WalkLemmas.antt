-- Walks grow and shrink at their ends.
use Rattle.std.proofs.Common.{◌≡◌, ℕ, zero, suc, arith, Some, slice_get, ◌<◌, List, [], ◌∷◌, ◌++◌, length, map, take, get_or, refl, sym, ap, subst}
use Rattle.std.proofs.lemmas.List.{length-take-le, length_push, take_more}
use Rattle.tso_prog.specs.declared.client.Client.{Client}
use Rattle.tso_machine.specs.Activations.{Activation}
use Rattle.tso_machine.specs.Machines.{label_of, machine_of}
use Rattle.tso_machine.specs.Programs.{program_of}
use Rattle.tso_machine.specs.Undone.{Undoes}
use Rattle.tso_machine.specs.declared.back.Undo.{Undo}
use Rattle.tso_machine.specs.declared.label.Label.{Label}
use Rattle.tso_machine.specs.declared.machine.Machine.{Machine}
use Rattle.tso_model.specs.Labels as model
use Rattle.tso_model.specs.Labels.{Run, Step}
use Rattle.tso_model.specs.Programs.{Program}
use Rattle.tso_trace.specs.Runs.{LeadsTo}
use Rattle.tso_trace.specs.Walks.{IsAt, Walk}

walk_more : (p : Program Activation) (m : Machine) (us : List Undo) (ls : List Label) (end : Machine) (u : Undo) (l : Label) (next : Machine)
    → Walk p m us ls end → Undoes u next end → Step p (machine_of end) (label_of l) (machine_of next) → Walk p m (us ++ u ∷ []) (ls ++ l ∷ []) next
walk_more p m [] [] end u l next w back step =
    let Q : Machine → Type 0 = λ x. Undoes u next x in
    let R : Machine → Type 0 = λ x. Step p (machine_of x) (label_of l) (machine_of next) in
    (next, subst Q w back, subst R w step, refl)
walk_more p m [] (k ∷ ls) end u l next w back step = absurd w
walk_more p m (v ∷ us) [] end u l next w back step = absurd w
walk_more p m (v ∷ us) (k ∷ ls) end u l next w back step = (w.0, w.1, w.2, walk_more p w.0 us ls end u l next w.3 back step)

-- the machine before the last step
pub record Before (p : Program Activation) (m : Machine) (us : List Undo) (ls : List Label) (u : Undo) (end : Machine) : Type 0 where
  pub machine : Machine
  pub back : Undoes u end machine
  pub walk : Walk p m us ls machine

walk_less : (p : Program Activation) (m : Machine) (us : List Undo) (ls : List Label) (end : Machine) (u : Undo) (l : Label)
    → length us ≡ length ls → Walk p m (us ++ u ∷ []) (ls ++ l ∷ []) end → Before p m us ls u end
walk_less p m [] [] end u l e w =
    let Q : Machine → Type 0 = λ x. Undoes u x m in
    record { machine = m; back = subst Q (sym w.3) w.1; walk = refl }
walk_less p m [] (k ∷ ls) end u l e w = absurd (omega arith)
walk_less p m (v ∷ us) [] end u l e w = absurd (omega arith)
walk_less p m (v ∷ us) (k ∷ ls) end u l e w =
    let b = walk_less p w.0 us ls end u l (omega arith) w.3 in
    record { machine = b.machine; back = b.back; walk = (w.0, w.1, w.2, b.walk) }

got_within : {X : Type 0} (xs : List X) (k : ℕ) (x : X) → slice_get xs k ≡ Some x → k < length xs
got_within [] k x e = cc
got_within (y ∷ ys) zero x e = omega arith
got_within (y ∷ ys) (suc k) x e = omega (arith, got_within ys k x e)

got_is : {X : Type 0} (xs : List X) (k : ℕ) (x : X) → slice_get xs k ≡ Some x → get_or xs k x ≡ x
got_is [] k x e = refl
got_is (y ∷ ys) zero x e = cc
got_is (y ∷ ys) (suc k) x e = got_is ys k x e

module _ (c : Client) (labels : List Label) (us : List Undo) (m : Machine) (at : IsAt c labels us m) where
  pub at_more : (u : Undo) (l : Label) (next : Machine) → slice_get labels (length us) ≡ Some l → Undoes u next m
      → Step (program_of c) (machine_of m) (label_of l) (machine_of next) → IsAt c labels (us ++ u ∷ []) next
  at_more u l next found back step =
      let there : length us < length labels = got_within labels (length us) l found in
      let same : get_or labels (length us) l ≡ l = got_is labels (length us) l found in
      let R : Label → Type 0 = λ k. Step (program_of c) (machine_of m) (label_of k) (machine_of next) in
      record {
        first = at.first;
        begins = at.begins;
        within = rw (length_push us u) (omega arith);
        walk = rw (length_push us u, take_more labels (length us) l there) (walk_more (program_of c) at.first us (take (length us) labels) m u (get_or labels (length us) l) next at.walk back (subst R (sym same) step));
      }

-- the machine before the last step, and where it stands
pub record Back (c : Client) (labels : List Label) (us : List Undo) (u : Undo) (m : Machine) : Type 0 where
  pub machine : Machine
  pub back : Undoes u m machine
  pub at : IsAt c labels us machine

pub at_less : (c : Client) (labels : List Label) (us : List Undo) (u : Undo) (m : Machine) (d : Label) → IsAt c labels (us ++ u ∷ []) m → Back c labels us u m
at_less c labels us u m d at =
    let there : length us < length labels = omega (arith, at.within, length_push us u) in
    let w : Walk (program_of c) at.first (us ++ u ∷ []) (take (length us) labels ++ get_or labels (length us) d ∷ []) m = rw (length_push us u, take_more labels (length us) d there) at at.walk in
    let taken : length us ≡ length (take (length us) labels) = sym (length-take-le (length us) labels (omega arith)) in
    let b = walk_less (program_of c) at.first us (take (length us) labels) m u (get_or labels (length us) d) taken w in
    record { machine = b.machine; back = b.back; at = record { first = at.first; begins = at.begins; within = omega arith; walk = b.walk } }

walk_run : (p : Program Activation) (m : Machine) (us : List Undo) (ls : List Label) (end : Machine) → Walk p m us ls end → Run p (machine_of m) (map label_of ls) (machine_of end)
walk_run p m [] [] end w = ap machine_of w
walk_run p m [] (l ∷ ls) end w = absurd w
walk_run p m (u ∷ us) [] end w = absurd w
walk_run p m (u ∷ us) (l ∷ ls) end w = (machine_of w.0, w.2, walk_run p w.0 us ls end w.3)

pub stands : (c : Client) (labels : List Label) (us : List Undo) (m : Machine) → IsAt c labels us m → LeadsTo c (take (length us) labels) (machine_of m)
stands c labels us m at =
    let Q : model.Machine Activation → Type 0 = λ first. Run (program_of c) first (map label_of (take (length us) labels)) (machine_of m) in
    record { run = subst Q at.begins (walk_run (program_of c) at.first us (take (length us) labels) m at.walk) }
