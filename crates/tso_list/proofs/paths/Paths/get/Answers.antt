use Rattle.std.proofs.Common.{◌<◌, length, arith}
use Rattle.tso_list.proofs.Cutting.{IsPlace, length-cut, place_is}
use Rattle.tso_list.proofs.paths.Paths.get.Goals as goal
use Rattle.tso_list.proofs.paths.Paths.get.Goals.{After-deref-2}

pub returns-then-number-len : goal.returns-then-number-len
returns-then-number-len c = rw (← c.self.view_is, length-cut) (omega (arith, c.self.inside.ends.ok))

place : (c : After-deref-2) → IsPlace c.self.inside.ends.items c.self.inside.bytes.items c.args.number c.start_of-start.result c.index-end.result.now
place c =
    let h : c.args.number < length c.self.inside.ends.items = omega (arith, c.self.inside.ends.ok) in
    place_is _ _ _ _ _ c.self.invariant h (rw c.deref.ensures.value at c.start_of-start.ensures) c.index-end.ensures

pub slice_bounds-result-count : goal.slice_bounds-result-count
slice_bounds-result-count c = (place ((goal.at.slice_bounds-result-count c).After-deref-2)).rising

pub slice_bounds-result-start : goal.slice_bounds-result-start
slice_bounds-result-start c = let p = place ((goal.at.slice_bounds-result-start c).After-deref-2) in omega (arith, p.rising, p.within, c.deref-2.ensures.len, c.self.inside.bytes.ok)

pub slice_bounds-result-end : goal.slice_bounds-result-end
slice_bounds-result-end c = rw c.deref-2.ensures.value (place ((goal.at.slice_bounds-result-end c).After-deref-2)).within

pub returns : goal.returns
returns c = rw (← c.self.view_is, c.deref-2.ensures.value) (place ((goal.at.returns c).After-deref-2)).got
