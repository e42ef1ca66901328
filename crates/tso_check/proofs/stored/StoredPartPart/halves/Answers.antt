use Rattle.std.proofs.Common.{◌≡◌, ◌∙◌, ◌+◌, ap, arith, sym}
use Rattle.tso_check.proofs.SpanLemmas.{cut}
use Rattle.tso_check.proofs.stored.StoredPartPart.halves.Goals as goal
use Rattle.tso_check.specs.Spans.{records_with}
use Rattle.tso_rec.specs.Bases.{by_steps}
use Rattle.tso_scan.specs.Scanned.{shape_count}

pub returns-in-Fork : goal.returns-in-Fork
returns-in-Fork g c =
    let p = c.args.self.now in
    let left = c.deref-in-Fork.ensures in
    let right = c.deref-in-Fork-2.ensures in
    let both : shape_count p.shape.now ≡ shape_count c.deref-in-Fork.result.now + shape_count c.deref-in-Fork-2.result.now = ap shape_count c.in-Fork.is ∙ (λ i. shape_count (sym left i) + shape_count (sym right i)) in
    let count : c.len.result ≡ shape_count c.deref-in-Fork.result.now = c.len.ensures ∙ ap shape_count (c.deref.ensures ∙ sym left) in
    let few = c.requires.2 in (
      cut p.checked.now.client (by_steps p.scanned.now.table) (records_with p.scanned.now.store.states p.scanned.now.ends) p.start (shape_count p.shape.now) (shape_count c.deref-in-Fork.result.now) (shape_count c.deref-in-Fork-2.result.now) c.len.result both count,
      (c.requires.0, c.requires.1, omega (arith, both, few)),
      (c.requires.0, c.requires.1, omega (arith, both, count, few)),
    )
