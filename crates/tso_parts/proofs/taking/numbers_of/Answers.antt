use Rattle.std.proofs.Common.{◌≡◌, ◌∙◌, ◌∷◌, ◌++◌, [], List, Some, ap, arith, append_assoc, length, slice_get, sym}
use Rattle.tso_parts.proofs.Marked.{within}
use Rattle.tso_parts.proofs.Takings.{mark_of, next_at, numbers_more, one_more}
use Rattle.tso_parts.specs.Marks.{hash_of}
use Rattle.tso_parts.proofs.taking.numbers_of.Goals as goal

pub hash_from-hash-requires : goal.hash_from-hash-requires
hash_from-hash-requires g c =
    let at = c.loop-item in
    let x = c.in-Some.item in
    let all = c.args.others in
    let here : c.len.result ≡ length at.yielded = c.len.ensures ∙ at.invariant.numbers.wide in
    let steps = c.in-Some.ensures.steps.0 in
    let whole = ap (λ (ys : List g.row.T.Denot). at.yielded ++ ys) (sym steps) ∙ at.invariant.rest ∙ c.into_iter-item-iterator.ensures.into_iter_gives.0 ∙ c.into_vec-item-items.ensures in
    let there : slice_get all c.len.result ≡ Some x = ap (slice_get all) here ∙ next_at at.yielded _ all x whole in
    record {
      small = let w = within all c.len.result x there in omega (arith, w, c.requires.others.small);
      marked = λ m e. mark_of (λ y. hash_of c.args.theirs (g.T.Hash.hash_input y)) all c.args.other_marks.now c.len.result x m c.requires.others there e;
    }

pub loop-item-preserved : goal.loop-item-preserved
loop-item-preserved g c =
    let at = c.loop-item in
    let x = c.in-Some.item in
    let steps = c.in-Some.ensures.steps.0 in
    let pushed = c.in_ok-push.ensures.ok in
    record {
      marked = c.number_with.ensures.marked;
      numbers = rw pushed (numbers_more at.items c.number_with.new.items at.numbers at.yielded c.in_ok-number.number x at.invariant.numbers c.number_with.ensures.extends c.in_ok-number.ensures.number);
      extends = λ i y e. c.number_with.ensures.extends i y (at.invariant.extends i y e);
      more = one_more (length at.items) _ _ at.yielded x at.invariant.more c.number_with.ensures.more;
      rest = append_assoc at.yielded (x ∷ []) _ ∙ rw (← steps) at.invariant.rest;
    }

pub returns-in_err-push-clause-extends : goal.returns-in_err-push-clause-extends
returns-in_err-push-clause-extends g c = λ i y e. c.number_with.ensures.extends i y (c.loop-item.invariant.extends i y e)
