use Rattle.std.proofs.Common.{length, sym, ap, ◌∙◌}
use Rattle.std.proofs.lemmas.Option.{same_Some}
use Rattle.std.specs.Option.{option_copied}
use Rattle.tso_state.proofs.ClientLemmas.{calls_of-width}
use Rattle.tso_keys.proofs.Procedures.{remembered}
use Rattle.tso_keys.proofs.view.View.of_key.Goals as goal

pub invariant_of-result : goal.invariant_of-result
invariant_of-result c =
    let kept = c.requires.kept in
    let history = sym c.get-2.ensures ∙ ap option_copied c.in_ok-history.was in
    let same = same_Some _ _ (sym history ∙ kept.key.history) in
    let count = sym (c.thread_count.ensures.calls ∙ calls_of-width c.args.client.now) in (
      record {
        threads = kept.key.threads;
        width = kept.fits.threads ∙ count;
        lists = ap length same ∙ kept.fits.lists ∙ count;
        small = c.requires.small;
      },
      remembered c.args.parts.now.histories c.args.running.now c.args.key.now.history c.in_ok-history.history.now c.requires.running history,
    )
