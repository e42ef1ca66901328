use Rattle.tsoq.proofs.verify.file_searched.Goals as goal

pub returns : goal.returns
returns g c = record { table = c.args.table.now; writable = c.requires; spelled = c.in_ok-taken.ensures }
