-- What is counted over several records.
use Rattle.std.proofs.Common.{◌≡◌, ◌∙◌, ◌++◌, ◌∷◌, ◌+◌, [], ℕ, suc, List, Option, Some, map, take, ap, sym, subst, arith, slice_get}
use Rattle.std.proofs.Math.Seq.{take-suc}
use Rattle.std.proofs.lemmas.List.{map-append}
use Rattle.std.proofs.lemmas.List.Sums.{fold-append}
use Rattle.std.proofs.lemmas.Option.{get_or_from_slice_get, slice_get_within}
use Rattle.std.specs.List.{fold}
use Rattle.tso_cert.specs.Lookup.{tree_states}
use Rattle.tso_cert.specs.Trees.{Tree, fork, records_of}
use Rattle.tso_verdict.specs.Calls.{refused_noted}
use Rattle.tso_verdict.specs.Counted.{AreCounted}
use Rattle.tso_verdict.specs.Levels.{most_noted}
use Rattle.tso_verdict.specs.Marks.{state_noted, states_noted}
use Rattle.tso_verdict.specs.declared.coverage.Coverage.{Coverage}
use Rattle.tso_flow.specs.declared.location.ProcedureKind.TheVariants as procedures
use Rattle.tso_prog.specs.declared.client.Client.{Client}
use Rattle.tso_rec.specs.Records.{ends_of}
use Rattle.tso_rec.specs.declared.record.End.{End}
use Rattle.tso_state.specs.declared.state.State.{State}

pub take_more : {X : Type 0} (xs : List X) (n : ℕ) (x : X) → slice_get xs n ≡ Some x → take (n + 1) xs ≡ take n xs ++ x ∷ []
take_more xs n x at =
    let lt = slice_get_within xs n x at in
    ap (λ k. take k xs) (let e : n + 1 ≡ suc n = omega arith in e) ∙ take-suc xs n x lt ∙ ap (λ z. take n xs ++ z ∷ []) (get_or_from_slice_get xs n x x at)

-- a fold over one item more
one_more : {X A : Type 0} (f : A → X → A) (a : A) (xs : List X) (n : ℕ) (x : X) → slice_get xs n ≡ Some x → fold f a (take (n + 1) xs) ≡ f (fold f a (take n xs)) x
one_more f a xs n x at = ap (fold f a) (take_more xs n x at) ∙ fold-append f a (take n xs) (x ∷ [])

-- the same, of something that was a fold over those before
goes_on : {X A : Type 0} (f : A → X → A) (a : A) (xs : List X) (n : ℕ) (x : X) (so_far more : A) → slice_get xs n ≡ Some x → so_far ≡ fold f a (take n xs) → more ≡ f so_far x → more ≡ fold f a (take (n + 1) xs)
goes_on f a xs n x so_far more at was by = by ∙ ap (λ m. f m x) was ∙ sym (one_more f a xs n x at)

-- a fold over two lists
pub both : {X A : Type 0} (f : A → X → A) (a : A) (xs ys : List X) (middle end : A) → middle ≡ fold f a xs → end ≡ fold f middle ys → end ≡ fold f a (xs ++ ys)
both f a xs ys middle end first second = second ∙ ap (λ m. fold f m ys) first ∙ sym (fold-append f a xs ys)

pub one_record_more : (c : Client) (before : Coverage) (states : List State) (ends : List End) (n : ℕ) (s : State) (e : End) (so_far noted more : Coverage)
    → AreCounted c before (take n states) (take n ends) so_far → slice_get states n ≡ Some s → slice_get ends n ≡ Some e
    → noted.push.marks ≡ state_noted c procedures.Push so_far.push.marks s → noted.pop.marks ≡ state_noted c procedures.Pop so_far.pop.marks s
    → noted.refused.push ≡ refused_noted procedures.Push so_far.refused.push s → noted.refused.pop ≡ refused_noted procedures.Pop so_far.refused.pop s
    → noted.most_items ≡ so_far.most_items
    → more.push ≡ noted.push → more.pop ≡ noted.pop → more.refused ≡ noted.refused → more.most_items ≡ most_noted noted.most_items e
    → AreCounted c before (take (n + 1) states) (take (n + 1) ends) more
one_record_more c before states ends n s e so_far noted more w at_state at_end push pop push_refused pop_refused most same_push same_pop same_refused by_end = record {
  of_push = goes_on (state_noted c procedures.Push) before.push.marks states n s so_far.push.marks more.push.marks at_state w.of_push (ap (λ m. m.marks) same_push ∙ push);
  of_pop = goes_on (state_noted c procedures.Pop) before.pop.marks states n s so_far.pop.marks more.pop.marks at_state w.of_pop (ap (λ m. m.marks) same_pop ∙ pop);
  push_refused = goes_on (refused_noted procedures.Push) before.refused.push states n s so_far.refused.push more.refused.push at_state w.push_refused (ap (λ r. r.push) same_refused ∙ push_refused);
  pop_refused = goes_on (refused_noted procedures.Pop) before.refused.pop states n s so_far.refused.pop more.refused.pop at_state w.pop_refused (ap (λ r. r.pop) same_refused ∙ pop_refused);
  of_most = goes_on most_noted before.most_items ends n e so_far.most_items more.most_items at_end w.of_most (by_end ∙ ap (λ m. most_noted m e) most);
}

-- the records of two lists one after the other
pub counted_in_turn : (c : Client) (before middle after : Coverage) (states more_states : List State) (ends more_ends : List End)
    → AreCounted c before states ends middle → AreCounted c middle more_states more_ends after → AreCounted c before (states ++ more_states) (ends ++ more_ends) after
counted_in_turn c before middle after states more_states ends more_ends v w = record {
  of_push = both (state_noted c procedures.Push) before.push.marks states more_states middle.push.marks after.push.marks v.of_push w.of_push;
  of_pop = both (state_noted c procedures.Pop) before.pop.marks states more_states middle.pop.marks after.pop.marks v.of_pop w.of_pop;
  push_refused = both (refused_noted procedures.Push) before.refused.push states more_states middle.refused.push after.refused.push v.push_refused w.push_refused;
  pop_refused = both (refused_noted procedures.Pop) before.refused.pop states more_states middle.refused.pop after.refused.pop v.pop_refused w.pop_refused;
  of_most = both most_noted before.most_items ends more_ends middle.most_items after.most_items v.of_most w.of_most;
}

pub both_halves : (c : Client) (before middle after : Coverage) (left right : Tree) (s : State)
    → AreCounted c before (tree_states left) (ends_of (records_of left)) middle → AreCounted c middle (tree_states right) (ends_of (records_of right)) after
    → AreCounted c before (tree_states (fork left s right)) (ends_of (records_of (fork left s right))) after
both_halves c before middle after left right s v w =
    subst (λ (states : List State). AreCounted c before states (ends_of (records_of (fork left s right))) after) (sym (map-append (λ r. r.state) (records_of left) (records_of right)))
    (subst (λ (ends : List End). AreCounted c before (tree_states left ++ tree_states right) ends after) (sym (map-append (λ r. r.end) (records_of left) (records_of right)))
    (counted_in_turn c before middle after (tree_states left) (tree_states right) (ends_of (records_of left)) (ends_of (records_of right)) v w))
