use Rattle.tso_cells.proofs.TestLemmas.{at_item, item_at}
use Rattle.tso_cells.specs.Inductive.{HandsOn}
use Rattle.tso_cells.proofs.inductive.hands_on_to.Goals as goal

pub returns : goal.returns
returns c =
    let P = HandsOn c.args.after.now c.args.item.now in (
      λ yes. item_at P c.args.items.now c.args.position c.in-Some.j c.index-items-j.result c.in-Some.is c.index-items-j.is (c.hands_on.ensures.0 yes),
      λ h. c.hands_on.ensures.1 (at_item P c.args.items.now c.args.position c.in-Some.j c.index-items-j.result c.in-Some.is c.index-items-j.is c.if-j-items.false h),
    )
