use Rattle.tso_pool.proofs.Unlinks.{exchanged}
use Rattle.tso_pool.proofs.closing.unlink.Goals as goal

pub returns-clause-found : goal.returns-clause-found
returns-clause-found g c =
    exchanged _ _ _ _ _ _ _ _ c.let_go-way.ensures.tally c.let_go-back.ensures.tally c.take_back.ensures.tally c.take_back-2.ensures.tally
