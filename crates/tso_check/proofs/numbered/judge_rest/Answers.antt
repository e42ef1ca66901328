use Rattle.std.proofs.Common.{refl}
use Rattle.std.proofs.lemmas.Bool.{false≢true}
use Rattle.tso_check.proofs.NumberedLemmas.{fails_among, lies_elsewhere, meets_all}
use Rattle.tso_check.proofs.numbered.judge_rest.Goals as goal

pub returns-then-not-are_successors_kept : goal.returns-then-not-are_successors_kept
returns-then-not-are_successors_kept c =
    fails_among c.args.store.now.client c.args.store.now.states c.args.number c.args.table.now c.args.view.now c.args.end.now c.requires.state c.requires.alone
    (λ k. false≢true (c.if-not-are_successors_kept.ensures.1 k))

pub returns-then-not-is_within : goal.returns-then-not-is_within
returns-then-not-is_within c =
    lies_elsewhere c.args.store.now.client c.args.store.now.states c.args.number c.args.table.now c.args.view.now c.args.end.now c.requires.state c.requires.alone
    (c.if-not-are_successors_kept.ensures.0 refl) (λ w. false≢true (c.if-not-is_within.ensures.1 w))

pub returns : goal.returns
returns c =
    meets_all c.args.store.now.client c.args.store.now.states c.args.number c.args.table.now c.args.view.now c.args.end.now c.requires.state c.requires.alone
    (c.if-not-are_successors_kept.ensures.0 refl) (c.if-not-is_within.ensures.0 refl)
