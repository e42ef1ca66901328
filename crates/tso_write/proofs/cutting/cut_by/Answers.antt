use Rattle.tso_write.proofs.cutting.cut_by.Goals as goal

pub run_by-requires-clause-ready : goal.run_by-requires-clause-ready
run_by-requires-clause-ready g c = λ k within. (c.requires.client, record { searched = c.requires.searched; closed = c.requires.closed; numbers = c.requires.numbers; rising = c.requires.rising })

pub returns : goal.returns
returns g c = c.run_by.ensures
