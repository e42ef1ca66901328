use Rattle.std.proofs.Common.{◌∙◌, sym}
use Rattle.std.proofs.lemmas.Bool.{false≢true}
use Rattle.tso_cells.proofs.TestLemmas.{handed_next, handed_target, successors_of}
use Rattle.tso_cells.proofs.inductive.has_successors.Goals as goal

pub returns-then-hands_on_to : goal.returns-then-hands_on_to
returns-then-hands_on_to c = (
  λ yes. successors_of c.args.items.now c.args.i c.args.step c.args.item.now c.moved-after.result c.next_position.result c.jump_target.result c.moved-after.ensures c.next_position.ensures c.jump_target.ensures
      (c.hands_on_to.ensures.0 c.if-hands_on_to.true) (c.hands_on_to-then-hands_on_to.ensures.0 yes),
  λ h. c.hands_on_to-then-hands_on_to.ensures.1
      (handed_target c.args.items.now c.args.i c.args.step c.args.item.now c.moved-after.result c.jump_target.result c.moved-after.ensures c.jump_target.ensures h),
)

pub returns-else-hands_on_to : goal.returns-else-hands_on_to
returns-else-hands_on_to c = (
  λ yes. absurd (false≢true (sym c.if-hands_on_to.false ∙ yes)),
  λ h. c.hands_on_to.ensures.1
      (handed_next c.args.items.now c.args.i c.args.step c.args.item.now c.moved-after.result c.next_position.result c.moved-after.ensures c.next_position.ensures h),
)
