use Rattle.std.proofs.Common.{rules}
use Rattle.tso_rec.specs.Fronts.{fronts}
use Rattle.tso_scan.proofs.ScrollLemmas.{told}
use Rattle.tso_scan.proofs.scroll.Scroll.behind.Goals as goal

pub returns-in-Some : goal.returns-in-Some
returns-in-Some g c =
    rw (← c.self.view_is) (told (fronts g.met.T.Readable.one_spelling) c.self.inside.parts c.self.inside.spellings c.args.number c.as_slice.result.now c.args.bytes.now c.in-Some.rest.now c.self.invariant (search rules) c.in-Some.ensures.cases.0 c.in-Some.ensures.cases.1)
