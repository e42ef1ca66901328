use Rattle.tsoq.proofs.verify.file_anew.Goals as goal

pub returns : goal.returns
returns g c = record { table = c.in_ok-anew.anew; writable = c.in_ok-anew.ensures; spelled = c.in_ok-taken.ensures }
