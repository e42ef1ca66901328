use Rattle.std.proofs.Common.{sym, ◌∙◌}
use Rattle.tso_keys.proofs.StateLemmas.{kept_at}
use Rattle.tso_keys.proofs.halving.is_less_at.Goals as goal

pub compare_keys-requires-clause-first : goal.compare_keys-requires-clause-first
compare_keys-requires-clause-first c = (c.requires.kept.0, kept_at c.requires.kept.0 c.args.parts.now c.args.keys.now c.args.number c.in-Some.found c.requires.kept.1 (sym c.in-Some.ensures))

pub compare_keys-requires-clause-alike : goal.compare_keys-requires-clause-alike
compare_keys-requires-clause-alike c =
    (kept_at c.requires.kept.0 c.args.parts.now c.args.keys.now c.args.number c.in-Some.found c.requires.kept.1 (sym c.in-Some.ensures)).fits.threads ∙ sym c.requires.kept.2.fits.threads
