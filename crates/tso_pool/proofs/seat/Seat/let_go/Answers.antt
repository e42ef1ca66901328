use Rattle.std.proofs.Common.{◌++◌, ◌∙◌, ap, option_to_list}
use Rattle.tso_pool.proofs.Tallies.{reached}
use Rattle.tso_pool.proofs.seat.Seat.let_go.Goals as goal

pub returns-clause-tally : goal.returns-clause-tally
returns-clause-tally g c =
    reached _ _ _ c.pop.new.self.items c.args.self.now.others.items c.unwrap.result (c.pop.ensures.items ∙ ap (λ o. c.pop.new.self.items ++ option_to_list o) c.unwrap.ensures)
