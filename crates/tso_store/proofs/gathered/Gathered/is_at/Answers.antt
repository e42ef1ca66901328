use Rattle.std.proofs.Common.{◌∙◌, ap, slice_get, sym}
use Rattle.std.proofs.lemmas.Bool.{false≢true}
use Rattle.tso_store.proofs.Gatherings.{at_key, key_at, never, none_at}
use Rattle.tso_keys.proofs.StateLemmas.{no_key, no_misfit}
use Rattle.tso_store.proofs.gathered.Gathered.is_at.Goals as goal

pub returns-then-not-fits_client : goal.returns-then-not-fits_client
returns-then-not-fits_client c =
    rw (← c.self.view_is) (never (no_misfit c.self.inside.checked.now.client c.self.inside.parts c.self.inside.keys.items c.args.state.now c.self.invariant.kept (λ fits. absurd (false≢true (sym c.if-not-fits_client.true ∙ c.fits_client.ensures.fits.1 fits))) c.args.place))

pub returns-in_default : goal.returns-in_default
returns-in_default c = rw (← c.self.view_is) (never (no_key c.self.inside.checked.now.client c.self.inside.parts c.self.inside.keys.items c.args.state.now c.self.invariant.kept c.in_default.ensures c.args.place))

pub returns-in-Some-kept_at : goal.returns-in-Some-kept_at
returns-in-Some-kept_at c =
    let inside = c.self.inside in
    rw (← c.self.view_is) (
      λ same. at_key inside.checked.now.client inside.parts inside.keys.items c.args.place c.in-Some.key c.in-Some-kept_at.kept c.args.state.now c.is_numbered-2.ensures.numbered c.is_numbered-3.ensures.numbered c.is_numbered.ensures.numbered c.self.invariant.small c.self.invariant.kept c.in-Some.ensures (ap (λ l. slice_get l c.args.place) (sym c.as_slice.ensures.value) ∙ sym c.in-Some-kept_at.ensures) (c.are_same.ensures.0 same),
      λ here. c.are_same.ensures.1 (key_at inside.checked.now.client inside.parts inside.keys.items c.args.place c.in-Some.key c.in-Some-kept_at.kept c.args.state.now c.is_numbered-2.ensures.numbered c.is_numbered-3.ensures.numbered c.is_numbered.ensures.numbered c.self.invariant.small c.self.invariant.kept c.in-Some.ensures (ap (λ l. slice_get l c.args.place) (sym c.as_slice.ensures.value) ∙ sym c.in-Some-kept_at.ensures) here),
    )

pub returns-in-None : goal.returns-in-None
returns-in-None c = rw (← c.self.view_is) (never (none_at c.self.inside.parts c.self.inside.keys.items c.args.place c.args.state.now (ap (λ l. slice_get l c.args.place) (sym c.as_slice.ensures.value) ∙ sym c.in-None.ensures)))
