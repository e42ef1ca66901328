use Rattle.std.proofs.Common.{sym}
use Rattle.tso_store.proofs.Alone.{alone_at, nowhere_alone}
use Rattle.tso_store.proofs.numbered.Store.lone.Goals as goal

pub returns-in-Some : goal.returns-in-Some
returns-in-Some c = rw (← c.self.view_is) (alone_at c.self.inside.checked.now.client c.self.inside.parts c.self.inside.keys c.args.number c.in-Some.key.now c.lone_at.result (sym c.in-Some.ensures) c.lone_at.ensures.first c.lone_at.ensures.few)

pub returns-in-None : goal.returns-in-None
returns-in-None c = rw (← c.self.view_is) (nowhere_alone c.self.inside.checked.now.client c.self.inside.parts c.self.inside.keys c.args.number (sym c.in-None.ensures))
