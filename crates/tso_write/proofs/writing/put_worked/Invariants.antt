use Rattle.std.proofs.Common.{[], Some}
use Rattle.tso_write.specs.Tasks.{uncut}
use Rattle.tso_write.proofs.writing.put_worked.Given as goal

abbrev pub ghosts-put_tree : goal.ghosts-put_tree
ghosts-put_tree g a = record { source = Some (uncut a.whole.now.checked.now.client a.whole.now.ground.now a.whole.now.store.now.states []) }
