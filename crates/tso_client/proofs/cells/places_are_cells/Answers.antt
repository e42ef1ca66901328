use Rattle.tso_client.proofs.CellPlaces.{cells_have_places, memory_holds_arrays, memory_is_cells, places_are_distinct, places_are_of_cells}
use Rattle.tso_client.proofs.cells.places_are_cells.Goals as goal

pub returns : goal.returns
returns c =
    let client = c.args.client.now in record {
      have = cells_have_places client;
      only = places_are_of_cells client;
      distinct = places_are_distinct client;
      all = memory_is_cells client;
      holds = memory_holds_arrays client;
    }
