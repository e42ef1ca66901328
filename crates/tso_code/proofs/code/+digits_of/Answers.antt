use Rattle.std.proofs.Common.{◌-◌, ◌+◌, ◌*◌, slice_index_or, arith}
use Rattle.tso_code.proofs.DigitLemmas.{wide, larger, fits_word}
use Rattle.tso_code.proofs.code.+digits_of.Goals as goal

pub overflow_mul-result : goal.overflow_mul-result
overflow_mul-result t c =
    let bound = larger c.args.left 128 c.in_ok-high-in-len1-up.high (omega arith) (omega arith) c.in_ok-high-in-len1-up.ensures.bound in
    let fits = fits_word c.args.left _ (omega arith) bound in
    omega arith

pub overflow_add-result : goal.overflow_add-result
overflow_add-result t c =
    let bound = larger c.args.left (slice_index_or c.args.bytes.now 0 0) c.in_ok-high-in-len1-up.high (omega arith) (omega (arith, c.type_inv.bytes 0)) c.in_ok-high-in-len1-up.ensures.bound in
    let fits = fits_word c.args.left (slice_index_or c.args.bytes.now 0 0 - 128 + 128 * c.in_ok-high-in-len1-up.high) (omega arith) bound in
    omega arith

pub returns-then-byte-lt128-clause-bound : goal.returns-then-byte-lt128-clause-bound
returns-then-byte-lt128-clause-bound t c = wide c.args.left _ (omega arith) c.if-byte-lt128.true

pub returns-else-high-eq0-clause-bound : goal.returns-else-high-eq0-clause-bound
returns-else-high-eq0-clause-bound t c = larger c.args.left (slice_index_or c.args.bytes.now 0 0) c.in_ok-high-in-len1-up.high (omega arith) (omega (arith, c.type_inv.bytes 0)) c.in_ok-high-in-len1-up.ensures.bound
