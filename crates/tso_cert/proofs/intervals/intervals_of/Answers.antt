use Rattle.tso_cert.proofs.NeedLemmas.{names_no_more}
use Rattle.tso_cert.proofs.SeenLemmas.{if_both, seen_within}
use Rattle.tso_cert.proofs.intervals.intervals_of.Goals as goal

pub returns-clause-held : goal.returns-clause-held
returns-clause-held c = λ states seen.
    let client = c.args.checked.now.client in
    let hull = c.args.hull.now in
    if_both c.widened.result (λ t is holds. seen_within client t hull is holds c.requires states seen) c.widened.ensures.inductive c.widened.ensures.held

pub returns-clause-narrow : goal.returns-clause-narrow
returns-clause-narrow c = if_both c.widened.result (λ t needed again. names_no_more c.args.checked.now.client t needed) c.widened.ensures.needed c.widened.ensures.needed
