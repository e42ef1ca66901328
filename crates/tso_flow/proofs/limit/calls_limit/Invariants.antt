use Rattle.std.proofs.Common.{◌≡◌, ◌*◌, ◌≤◌, take}
use Rattle.std.specs.Prelude.{sum_by}
use Rattle.tso_flow.specs.Calls.{by_kind}
use Rattle.tso_flow.proofs.limit.calls_limit.Given as goal

abbrev pub invariant-loop-call : goal.invariant-loop-call
invariant-loop-call l = record {
  told : l.sum ≡ sum_by (λ call. by_kind l.push l.pop call) (take l.call-index l.calls);
  small : l.sum ≤ 5000000 * l.call-index;
}
