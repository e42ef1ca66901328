use Rattle.tso_scan.proofs.halves.graft.Goals as goal

pub returns-in-Ok-true-clause-grafted : goal.returns-in-Ok-true-clause-grafted
returns-in-Ok-true-clause-grafted c = record {
  middle = c.in-Ok-Some.seam.0;
  seam = rw c.in-Ok-Some.field-0-is at c.in-Ok-Some.ensures;
  client = c.in-Ok-true.ensures.client;
  taken = c.in-Ok-true.ensures.taken c.in-Ok-true.field-0-test;
}
