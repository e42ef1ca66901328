use Rattle.std.proofs.Common.{◌≡◌, ℕ, ◌+◌, List, length, take, refl, ap, ◌∙◌, arith}
use Rattle.std.specs.Prelude.{sum_by}
use Rattle.tso_line.specs.declared.instruction.CallKind.{CallKind}
use Rattle.tso_flow.specs.Calls.{by_kind}
use Rattle.tso_flow.proofs.Limits.{sum_more}
use Rattle.tso_flow.proofs.limit.threads_limit.Goals as goal

pub loop-calls-preserved : goal.loop-calls-preserved
loop-calls-preserved c =
    let threads : List (List CallKind) = c.args.threads.now in
    let i : ℕ = c.loop-calls.calls-index in
    let item : List CallKind = c.calls-item.result in
    let f : List CallKind → ℕ = λ (calls : List CallKind). sum_by (λ (call : CallKind). by_kind c.args.push c.args.pop call) calls in
    let g : List CallKind → ℕ = λ (calls : List CallKind). length calls in
    let known = c.loop-calls.invariant in
    let here : c.calls_limit-sum.result ≡ f item = c.calls_limit-sum.ensures.exact ∙ ap f c.as_slice.ensures in
    let many : sum_by g (take i threads) + length item ≡ sum_by g (take (i + 1) threads) = sum_more g threads i item (sum_by g (take i threads)) (length item) c.loop-calls-test.true c.calls-item.is refl refl in
    let same : length c.as_slice.result.now ≡ length item = ap g c.as_slice.ensures in
    record {
      told = sum_more f threads i item c.loop-calls.sum c.calls_limit-sum.result c.loop-calls-test.true c.calls-item.is known.told here;
      small = omega (arith, many, same, known.small, c.calls_limit-sum.ensures.small);
    }
