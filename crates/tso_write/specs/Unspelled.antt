-- States that are to be spelled, as the code has them.
use Rattle.tso_write.specs.Tasks.{Numbered, uncut}
use Rattle.tso_write.specs.declared.spelling.Unspelled.{Unspelled}

abbrev pub numbers_of : Unspelled → Numbered
numbers_of p = uncut p.checked.now.client p.ground.now p.store.now.states p.numbers.now
