use Rattle.tso_choose.proofs.ClosureLemmas.{has_bit-with}
use Rattle.tso_choose.proofs.set.with_bit.Goals as goal

pub returns : goal.returns
returns c = λ k. has_bit-with c.args.set c.args.number k c.requires
