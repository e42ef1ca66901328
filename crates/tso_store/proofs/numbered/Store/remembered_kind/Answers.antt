use Rattle.std.proofs.Common.{sym}
use Rattle.tso_store.proofs.Alone.{core_at}
use Rattle.tso_store.proofs.numbered.Store.remembered_kind.Goals as goal

pub returns-in-Some : goal.returns-in-Some
returns-in-Some c = rw (← c.self.view_is) (core_at c.self.inside.checked.now.client c.self.inside.parts c.self.inside.keys c.args.number c.args.thread c.in-Some.key.now c.remembered_core.result (sym c.in-Some.ensures) c.remembered_core.ensures)
