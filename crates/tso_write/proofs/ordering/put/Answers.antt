use Rattle.std.proofs.Common.{◌∙◌, ◌∷◌, ◌++◌, [], ap, set}
use Rattle.tso_write.proofs.OrderingLemmas.{put_ranked}
use Rattle.tso_write.proofs.ordering.put.Goals as goal

pub returns : goal.returns
returns c rows at grouped =
    let mid = c.make_room.new.groups in
    let m = c.args.rank in
    let d = c.at_mut.result.now in
    let put = ap (set mid m) (c.in_ok-push.ensures.ok ∙ ap (λ g. g ++ c.args.number ∷ []) c.at_mut.ensures.value) in
    put_ranked rows c.args.rank c.args.number c.args.groups.now mid _ d c.in_ok-make_room.ensures.room c.in_ok-make_room.ensures.same (c.in_ok-make_room.ensures.each rows 0 grouped.groups_are) put at grouped
