use Rattle.tso_list.proofs.Cutting.{copied}
use Rattle.tso_list.proofs.paths.copy_to_end.Goals as goal

pub returns-clause-ok : goal.returns-clause-ok
returns-clause-ok c =
    rw c.resize.new.self.ok.0 (copied _ _ _ _ _ _ _ _ c.requires.rising c.requires.within c.len-at.ensures c.args.bytes.now.ok.0 c.in_ok-resize.ensures.items (rw c.as_mut_slice.ensures.value at c.copy_on.ensures))
