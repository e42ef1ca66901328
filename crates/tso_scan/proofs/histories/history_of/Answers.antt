use Rattle.tso_scan.proofs.histories.history_of.Goals as goal

pub returns-in-Some : goal.returns-in-Some
returns-in-Some c = record { rows = c.requires.rows; extends = λ i x e. e; found = c.requires.rows.each c.in-Some.number c.args.row c.in-Some.ensures }
