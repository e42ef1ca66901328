use Rattle.std.proofs.Common.{◌≡◌, ◌∙◌, ◌<◌, ◌++◌, ◌∷◌, [], length, refl, arith}
use Rattle.tso_list.proofs.Cutting.{IsPlace, is_longer, length-cut, place_is, still_rising, view_pushed}
use Rattle.tso_list.proofs.paths.Paths.push_longer.Goals as goal
use Rattle.tso_list.proofs.paths.Paths.push_longer.Goals.{After-index-end}

pub returns-then-number-len-clause-ok : goal.returns-then-number-len-clause-ok
returns-then-number-len-clause-ok c = rw (← c.self.view_is, length-cut) (omega (arith, c.self.inside.ends.ok), refl)

number : (c : After-index-end) → c.args.number < length c.self.inside.ends.items
number c = omega (arith, c.self.inside.ends.ok)

place : (c : After-index-end) → IsPlace c.self.inside.ends.items c.self.inside.bytes.items c.args.number c.start_of-start.result c.index-end.result.now
place c = place_is _ _ _ _ _ c.self.invariant (number c) (rw c.deref.ensures.value at c.start_of-start.ensures) c.index-end.ensures

pub copy_to_end-requires-clause-rising : goal.copy_to_end-requires-clause-rising
copy_to_end-requires-clause-rising c = (place ((goal.at.copy_to_end-requires-clause-rising c).After-index-end)).rising

pub copy_to_end-requires-clause-within : goal.copy_to_end-requires-clause-within
copy_to_end-requires-clause-within c = (place ((goal.at.copy_to_end-requires-clause-within c).After-index-end)).within

ends : (c : goal.After-push_reserved) → c.push_reserved.new.self.items ≡ c.self.inside.ends.items ++ c.len-2.result ∷ []
ends c = rw c.reserve.ensures.items at c.push_reserved.ensures.items

pub invariant_of-self-2 : goal.invariant_of-self-2
invariant_of-self-2 c = still_rising _ _ _ _ _ _ c.self.invariant c.in_ok-copy_to_end.ensures.ok (c.len-2.ensures ∙ c.copy_to_end.new.bytes.ok.0) (ends c)

pub returns-clause-ok : goal.returns-clause-ok
returns-clause-ok c =
    let d = (goal.at.returns-clause-ok c).After-index-end in
    let new = view_pushed _ _ _ _ _ _ c.self.invariant c.in_ok-copy_to_end.ensures.ok (c.len-2.ensures ∙ c.copy_to_end.new.bytes.ok.0) (ends c) in
    rw (← c.self.view_is) (is_longer _ _ _ _ _ _ _ (place d) (number d) new)
