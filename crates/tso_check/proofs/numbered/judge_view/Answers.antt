use Rattle.std.proofs.Common.{refl}
use Rattle.std.proofs.lemmas.Bool.{false≢true}
use Rattle.tso_check.proofs.AloneLemmas.{sure_met}
use Rattle.tso_check.proofs.numbered.judge_view.Goals as goal
use Rattle.tso_judge.proofs.JudgeLemmas.{not_well_formed}
use Rattle.tso_rec.specs.Bases.{by_steps}

pub returns-then-not-is_well_formed_given : goal.returns-then-not-is_well_formed_given
returns-then-not-is_well_formed_given c =
    not_well_formed c.args.checked.now.client (by_steps c.args.table.now) (Unit {0}) (Unit {0}) c.args.view.now c.args.end.now (λ h. false≢true (c.if-not-is_well_formed_given.ensures.1 h))

pub returns : goal.returns
returns c =
    sure_met c.args.store.now.client c.args.checked.now.client c.args.table.now c.args.store.now.states c.args.number c.thread_count.result c.args.view.now c.args.end.now c.requires.client c.requires.state c.thread_count.ensures
    (c.if-not-is_sure_end.ensures refl) (c.if-not-is_well_formed_given.ensures.0 refl)
