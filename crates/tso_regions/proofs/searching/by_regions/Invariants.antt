use Rattle.std.proofs.Common.{Some}
use Rattle.tso_regions.proofs.searching.by_regions.Given as goal

abbrev pub ghosts-run_as : goal.ghosts-run_as
ghosts-run_as g a = record {
  client = Some a.checked.now.client;
  table = Some a.table.now;
}
