use Rattle.std.proofs.Common.{◌≡◌, ◌∙◌, ◌∷◌, ◌++◌, [], ℕ, List, Some, ap, append_assoc, arith, length, refl, slice_get, sym, subst}
use Rattle.std.proofs.lemmas.List.{length_push}
use Rattle.std.proofs.lemmas.Option.{slice_get_within}
use Rattle.std.specs.Vec.Iter.{into_iter_items}
use Rattle.tso_parts.proofs.Takings.{next_at}
use Rattle.tso_regions.proofs.GatheringLemmas.{IsFirst, came_all, first_more, first_none, gathered_more, gathered_none}
use Rattle.tso_regions.specs.Gathering.{AreGathered, AreOwnListed}
use Rattle.tso_regions.specs.Regions.{Domain}
use Rattle.tso_regions.proofs.gathering.take_all.Goals as goal

pub loop-region-init : goal.loop-region-init
loop-region-init g c =
    let all = into_iter_items c.into_iter-region-iterator.result in
    record {
      client = refl;
      gathered = λ listed. subst (AreGathered c.args.gathered.now.client c.args.count all 0) (sym c.requires.none) (gathered_none c.args.gathered.now.client c.args.count all);
      first = first_none all c.args.gathered.now.states;
      none = λ _. c.requires.none;
      rest = refl;
      left = c.into_iter-region-iterator.ensures.into_iter_gives.1 ∙ c.args.regions.ok.0 ∙ ap length (sym c.into_iter-region-iterator.ensures.into_iter_gives.0);
    }

pub loop-region-preserved : goal.loop-region-preserved
loop-region-preserved g c =
    let at = c.loop-region in
    let region = c.in-Some.region in
    let client = c.args.gathered.now.client in
    let all = into_iter_items c.into_iter-region-iterator.result in
    let steps = c.in-Some.ensures.steps.0 in
    let whole : at.yielded ++ region ∷ into_iter_items c.next.new.self ≡ all = ap (λ (ys : List Domain). at.yielded ++ ys) (sym steps) ∙ at.invariant.rest in
    let here : slice_get all (length at.yielded) ≡ Some region = next_at at.yielded _ all region whole in
    let taken = c.in_ok-take_own.ensures.taken c.if-not-branch.false in
    let one = length_push at.yielded region in
    record {
      client = c.take_own.ensures.client ∙ at.invariant.client;
      gathered = λ listed. subst (λ (k : ℕ). AreGathered client c.args.count all k c.take_own.new.gathered.states) (sym one)
          (gathered_more client c.args.count (length at.yielded) all region at.gathered.states c.take_own.new.gathered.states (at.invariant.gathered listed) here
          (listed (length at.yielded) region here) (c.is_known.ensures.met client c.requires.client) c.is_known.ensures.differ taken);
      first = subst (λ (k : ℕ). IsFirst all k c.take_own.new.gathered.states) (sym one) (first_more c.args.count (length at.yielded) all region at.gathered.states c.take_own.new.gathered.states at.invariant.first at.invariant.none here taken);
      none = λ e. absurd (omega (arith, e, one));
      rest = append_assoc at.yielded (region ∷ []) _ ∙ whole;
      left = let gone = c.in-Some.ensures.steps.1 in let short = ap length steps in omega (arith, at.invariant.left, gone, short);
    }

pub returns-clause-gathered : goal.returns-clause-gathered
returns-clause-gathered g c = λ _ listed.
    let all : into_iter_items c.into_iter-region-iterator.result ≡ c.args.regions.items = c.into_iter-region-iterator.ensures.into_iter_gives.0 in
    let done = came_all c.loop-region.yielded _ c.args.regions.items (sym c.loop-region.invariant.left ∙ c.in-None.ensures.steps.0) (c.loop-region.invariant.rest ∙ all) in
    let client = c.args.gathered.now.client in
    let gathered = c.loop-region.invariant.gathered (subst (AreOwnListed c.args.count) (sym all) listed) in
    subst (λ (k : ℕ). AreGathered client c.args.count c.args.regions.items k c.loop-region.gathered.states) (ap length done)
    (subst (λ (domains : List Domain). AreGathered client c.args.count domains (length c.loop-region.yielded) c.loop-region.gathered.states) all gathered)

pub returns-clause-first : goal.returns-clause-first
returns-clause-first g c = λ _ d s at own here.
    let all : into_iter_items c.into_iter-region-iterator.result ≡ c.args.regions.items = c.into_iter-region-iterator.ensures.into_iter_gives.0 in
    let done = came_all c.loop-region.yielded _ c.args.regions.items (sym c.loop-region.invariant.left ∙ c.in-None.ensures.steps.0) (c.loop-region.invariant.rest ∙ all) in
    let some = slice_get_within c.args.regions.items 0 d at in
    let many = ap length done in
    c.loop-region.invariant.first d s (omega (arith, some, many)) (ap (λ (domains : List Domain). slice_get domains 0) all ∙ at) own here
