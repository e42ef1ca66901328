use Rattle.std.proofs.Common.{◌≡◌, ◌*◌, ◌≤◌, length, take}
use Rattle.std.specs.Prelude.{sum_by}
use Rattle.tso_flow.specs.Calls.{by_kind}
use Rattle.tso_flow.proofs.limit.threads_limit.Given as goal

abbrev pub invariant-loop-calls : goal.invariant-loop-calls
invariant-loop-calls l = record {
  told : l.sum ≡ sum_by (λ calls. sum_by (λ call. by_kind l.push l.pop call) calls) (take l.calls-index l.threads);
  small : l.sum ≤ 5000000 * sum_by (λ calls. length calls) (take l.calls-index l.threads);
}
