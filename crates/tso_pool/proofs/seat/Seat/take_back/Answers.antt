use Rattle.std.proofs.Common.{◌+◌, ◌++◌, ◌∙◌, ap}
use Rattle.crossbeam_deque.specs.Handles.{view, worker_view}
use Rattle.tso_pool.specs.declared.rule.Hand.{Hand}
use Rattle.tso_pool.specs.Hands.{hand}
use Rattle.tso_pool.proofs.Kept.{merges_at}
use Rattle.tso_pool.proofs.Tallies.{found_too}
use Rattle.tso_pool.proofs.seat.Seat.take_back.Goals as goal

pub absorb-requires-clause-rule : goal.absorb-requires-clause-rule
absorb-requires-clause-rule g c = merges_at _ _ _ _ c.args.self.now.owner c.args.self.now.part

pub returns-clause-tally : goal.returns-clause-tally
returns-clause-tally g c =
    let old = worker_view c.args.self.now.own in
    let is = c.absorb.ensures.rule ∙ ap (λ (h : Hand g.row.T.Denot). hand (old.parts + h.parts) old.pushed (old.got ++ h.got)) (ap (view {V = Hand g.row.T.Denot}) c.into_pass.ensures.0) in
    found_too old (worker_view c.absorb.new.self) _ _ _ _ is
