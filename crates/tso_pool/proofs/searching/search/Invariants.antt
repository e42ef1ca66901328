use Rattle.std.proofs.Common.{Some}
use Rattle.tso_pool.proofs.searching.search.Given as goal

abbrev pub ghosts-search_as-U-Search : goal.ghosts-search_as-U-Search
ghosts-search_as-U-Search g a = record {
  client = Some a.checked.now.client;
  table = Some a.table.now;
}

abbrev pub ghosts-search_as-U-Ledger : goal.ghosts-search_as-U-Ledger
ghosts-search_as-U-Ledger g a = record { name = a.units.name; parts = a.units.parts }

abbrev pub ghosts-search_as-E-Ledger : goal.ghosts-search_as-E-Ledger
ghosts-search_as-E-Ledger g a = record { name = a.entries.name; parts = a.entries.parts }
