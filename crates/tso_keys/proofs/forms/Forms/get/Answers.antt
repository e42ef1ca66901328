use Rattle.std.proofs.Common.{◌∙◌, ap, false, sym}
use Rattle.std.proofs.lemmas.Option.{get_or_from_slice_get, slice_get-map}
use Rattle.std.specs.Option.{option_map}
use Rattle.tso_state.proofs.ViewLemmas.{none_there}
use Rattle.tso_keys.specs.Forms.{form_of, forms_by}
use Rattle.tso_keys.proofs.forms.Forms.get.Goals as goal

pub returns-in-None : goal.returns-in-None
returns-in-None c =
    let inside = c.self.inside in
    let form = form_of inside.memories inside.histories inside.threads in
    rw (← c.self.view_is) (sym (none_there (forms_by inside.memories inside.histories inside.threads inside.keys.now) c.args.number false (slice_get-map form inside.keys.now c.args.number ∙ ap (option_map form) (sym c.in-None.ensures))))

pub returns-in-Some : goal.returns-in-Some
returns-in-Some c =
    let inside = c.self.inside in
    let form = form_of inside.memories inside.histories inside.threads in
    rw (← c.self.view_is) (
    c.form_of.ensures ∙ (λ i. form_of (c.as_slice.ensures i) (c.as_slice-in-Some.ensures i) (c.as_slice-in-Some-2.ensures i) c.in-Some.key)
    ∙ sym (get_or_from_slice_get (forms_by inside.memories inside.histories inside.threads inside.keys.now) c.args.number (form c.in-Some.key) false (slice_get-map form inside.keys.now c.args.number ∙ ap (option_map form) (sym c.in-Some.ensures))))
