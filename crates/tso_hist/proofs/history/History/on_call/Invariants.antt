use Rattle.std.proofs.Common.{◌≡◌, count_by, is_some, map, take}
use Rattle.tso_hist.proofs.history.History.on_call.Given as goal

abbrev pub invariant-loop-calls : goal.invariant-loop-calls
invariant-loop-calls l = l.seen ≡ map (λ cs. count_by (λ c. is_some c.answer) cs) (take l.calls-index l.calls-items)
