use Rattle.std.proofs.Common.{◌≡◌, ◌∙◌, ◌+◌, ◌++◌, ℕ, List, ap, arith, subst, sym}
use Rattle.tso_cert.specs.Trees.{record_count, records_of, tree_of}
use Rattle.tso_cert.specs.declared.cert.Cert.{Cert}
use Rattle.tso_check.proofs.SpanLemmas.{cut, from_left, from_right}
use Rattle.tso_check.proofs.WalkLemmas.{count_is}
use Rattle.tso_check.proofs.halved.TreePartPart.halves.Goals as goal
use Rattle.tso_check.specs.Halved.{AreFrom}
use Rattle.tso_rec.specs.declared.record.Record.{Record}

abbrev counted : Cert → ℕ
counted c = record_count (tree_of c)

abbrev listed : Cert → List Record
listed c = records_of (tree_of c)

pub returns-in-Fork : goal.returns-in-Fork
returns-in-Fork g c =
    let p = c.args.self.now in
    let all = records_of (tree_of p.whole.tree.now) in
    let left = c.deref-in-Fork.ensures in
    let right = c.deref-in-Fork-2.ensures in
    let one = c.deref-in-Fork.result.now in
    let two = c.deref-in-Fork-2.result.now in
    let both : counted p.part.now ≡ counted one + counted two = ap counted c.in-Fork.is ∙ (λ i. counted (sym left i) + counted (sym right i)) in
    let lists : listed p.part.now ≡ listed one ++ listed two = ap listed c.in-Fork.is ∙ (λ i. listed (sym left i) ++ listed (sym right i)) in
    let count : c.len.result ≡ counted one = c.len.ensures ∙ ap counted (c.deref.ensures ∙ sym left) in
    let few = c.requires.2 in
    let from = subst (AreFrom all p.start) lists c.requires.3 in
    let long = count_is (tree_of one) in (
      cut p.whole.checked.now.client p.whole.basis.now all p.start (counted p.part.now) (counted one) (counted two) c.len.result both count,
      (c.requires.0, c.requires.1, omega (arith, both, few), from_left all (listed one) (listed two) p.start from),
      (c.requires.0, c.requires.1, omega (arith, both, count, few), from_right all (listed one) (listed two) p.start c.len.result (count ∙ sym long) from),
    )
