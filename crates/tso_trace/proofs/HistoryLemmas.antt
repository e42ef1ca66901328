-- Histories grow by one label.
use Rattle.std.proofs.Common.{◌≡◌, ◌∙◌, ℕ, ◌+◌, ◌<◌, List, [], ◌∷◌, ◌++◌, length, map, take, get_or, refl, sym, ap}
use Rattle.std.proofs.lemmas.List.{take_more, map_push}
use Rattle.tso_machine.specs.Machines.{label_of}
use Rattle.tso_machine.specs.declared.label.Label.{Label}
use Rattle.tso_model.specs.Labels as model
use Rattle.tso_model.specs.States.{Called}
use Rattle.tso_model.specs.Views.{after_label, after_labels}

after_push : (h : List (List Called)) (ls : List model.Label) (l : model.Label) → after_labels h (ls ++ l ∷ []) ≡ after_label (after_labels h ls) l
after_push h [] l = refl
after_push h (x ∷ xs) l = after_push (after_label h x) xs l

-- one more label is noted
pub history_grows : (first h next : List (List Called)) (labels : List Label) (k : ℕ) (d : Label) → k < length labels
    → h ≡ after_labels first (map label_of (take k labels)) → next ≡ after_label h (label_of (get_or labels k d))
    → next ≡ after_labels first (map label_of (take (k + 1) labels))
history_grows first h next labels k d there before noted =
    let l = get_or labels k d in
    noted
    ∙ ap (λ x. after_label x (label_of l)) before
    ∙ sym (after_push first (map label_of (take k labels)) (label_of l))
    ∙ sym (ap (after_labels first) (map_push label_of (take k labels) l))
    ∙ sym (ap (λ xs. after_labels first (map label_of xs)) (take_more labels k d there))
