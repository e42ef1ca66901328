use Rattle.std.proofs.Common.{subst}
use Rattle.tso_choose.proofs.ClosureLemmas.{has_only, less_room, only_in}
use Rattle.tso_choose.specs.Closures.{IsIn, needs_at}
use Rattle.tso_choose.proofs.closure.closure.Goals as goal

pub grow-init : goal.grow-init
grow-init c = record {
  has = has_only c.args.number c.requires.small;
  least = λ other h f. only_in c.args.number other c.requires.small h;
}

pub grow-smaller : goal.grow-smaller
grow-smaller c = less_room c.grow.set c.grown-next.result c.grown-next.ensures.more c.if-next-set.false c.grown-next.type_inv

pub grow-preserved : goal.grow-preserved
grow-preserved c = record {
  has = c.grown-next.ensures.more c.args.number c.grow.invariant.has;
  least = λ other h f. c.grown-next.ensures.least other (c.grow.invariant.least other h f) f;
}

pub returns : goal.returns
returns c = record {
  has = c.grow.invariant.has;
  closed = λ k h. subst (λ n. IsIn (needs_at c.args.needs.now k) n) c.if-next-set.true (c.grown-next.ensures.needed k h);
  least = c.grow.invariant.least;
}
