use Rattle.std.proofs.Common.{arith}
use Rattle.tso_cert.proofs.CountLemmas.{count_is}
use Rattle.tso_cert.proofs.decoding.leaf_of.Goals as goal

pub returns-then-count-from-clause-ended : goal.returns-then-count-from-clause-ended
returns-then-count-from-clause-ended c = λ n some few is.
    let read = count_is c.args.bytes.now n c.in-Some.count c.in-Some.rest.now c.in-Some.ensures.read is (omega (arith, few)) in
    absurd (omega (arith, read.0, few, c.if-count-from.true, c.min.ensures, c.from.ensures))

pub returns-in-Ok-clause-ended : goal.returns-in-Ok-clause-ended
returns-in-Ok-clause-ended c = λ n some few is.
    let read = count_is c.args.bytes.now n c.in-Some.count c.in-Some.rest.now c.in-Some.ensures.read is (omega (arith, few)) in
    let unread = c.in-Ok.ensures.empty (omega (arith, read.0, some)) read.1 in
    absurd cc

pub returns-in-Err-Memory-clause-ended : goal.returns-in-Err-Memory-clause-ended
returns-in-Err-Memory-clause-ended c = λ n some few is.
    let read = count_is c.args.bytes.now n c.in-Some.count c.in-Some.rest.now c.in-Some.ensures.read is (omega (arith, few)) in
    let unread = c.in-Err-Memory.ensures.empty (omega (arith, read.0, some)) read.1 in
    absurd cc
