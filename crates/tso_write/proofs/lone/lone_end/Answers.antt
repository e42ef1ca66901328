use Rattle.std.proofs.Common.{◌∙◌, ◌++◌, ◌∷◌, [], List, ap}
use Rattle.tso_choose.specs.declared.choice.Choice.{Choice}
use Rattle.tso_write.proofs.LoneEnds.{lone_ended}
use Rattle.tso_state.specs.declared.actor.Actor.TheVariants.{Exec}
use Rattle.tso_write.proofs.lone.lone_end.Goals as goal

pub returns : goal.returns
returns c =
    let choice : Choice = record { actor = Exec c.args.lone.thread; reasons = c.in_ok-reasons.reasons } in
    lone_ended c.args.lone c.args.count c.lone_reason.result c.in_ok-reasons.reasons c.push.new.self c.lone_reason.ensures c.in_ok-reasons.ensures
    (c.in_ok-push.ensures.ok ∙ ap (λ (xs : List Choice). xs ++ choice ∷ []) c.new-choices.ensures)
