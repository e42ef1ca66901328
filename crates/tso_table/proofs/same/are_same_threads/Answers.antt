use Rattle.std.proofs.Common.{rules}
use Rattle.tso_line.specs.contracts.instruction.CallKindPartialEq.TheImpl as call_impl
use Rattle.tso_list.specs.Same.{IsExact}
use Rattle.tso_table.proofs.same.are_same_threads.Goals as goal
use lib.Pointwise.{pointwise_decides}

call_exact : IsExact call_impl.eq-value.it
call_exact a b = search rules

pub returns : goal.returns
returns c = search (rules, pointwise_decides (pointwise_decides call_exact) c.args.a.now c.args.b.now)
