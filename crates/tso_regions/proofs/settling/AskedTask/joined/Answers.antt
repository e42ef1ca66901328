use Rattle.tso_regions.proofs.SettlingLemmas.{settled_joined}
use Rattle.tso_regions.proofs.settling.AskedTask.joined.Goals as goal

pub returns-then-first : goal.returns-then-first
returns-then-first g c = λ is.
    let p = c.args.self.now in
    let l = c.args._left.now in
    let r = c.args._right.now in
    settled_joined g.U.Realm.client g.U.Realm.table p.count p.regions.now p.from p.to l.count l.regions.now l.from l.to r.count r.regions.now r.from r.to c.requires.halves (c.requires.first c.if-first.true) (c.requires.second is)
