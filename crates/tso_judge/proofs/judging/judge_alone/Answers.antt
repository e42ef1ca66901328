use Rattle.tso_judge.proofs.judging.judge_alone.Goals as goal

pub returns-in-Choices-Crossings : goal.returns-in-Choices-Crossings
returns-in-Choices-Crossings g c = rw (c.in-Choices-Crossings.is-0, c.in-Choices-Crossings.is-1) (c.judge_crossing.ensures c.args.table.now c.in-Choices-Crossings.field-0-0)
