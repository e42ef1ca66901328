use Rattle.tso_check.proofs.stored.StoredPartPart.judge.Goals as goal

pub returns : goal.returns
returns g c = rw c.len.ensures at c.judge_numbers.ensures
