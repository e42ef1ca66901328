use Rattle.tso_search.proofs.MarkLemmas.{marked_too}
use Rattle.tso_search.proofs.marks.Marks.mark.Goals as goal

pub returns-clause-marked : goal.returns-clause-marked
returns-clause-marked c = rw (← c.self.view_is) (marked_too c.self.inside.marks.items c.make_room.new.marks.items c.args.number c.in_ok-make_room.ensures.same c.in_ok-make_room.ensures.room)
