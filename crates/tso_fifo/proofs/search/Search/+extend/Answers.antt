use Rattle.std.proofs.Common.{◌≡◌, List, [], ◌∷◌, ◌++◌, get_or, refl, sym, ap, ◌∙◌, subst, arith}
use Rattle.std.proofs.lemmas.Bool.{false≢true}
use Rattle.std.proofs.lemmas.Option.{slice_get-get_or}
use Rattle.tso_fifo.proofs.Completing.{dead_by_none, dead_by_search, none_left, open_count, open_falls, pushed_popped, start_next, start_whole, tried_more}
use Rattle.tso_fifo.proofs.Keys.{dead_key, flag_down}
use Rattle.std.proofs.Common.{inl, inr, All}
use Rattle.std.proofs.lemmas.List.{map-append}
use Rattle.std.proofs.lemmas.List.Elements.{All-cons}
use Rattle.std.proofs.lemmas.List.Sorted.{All-permutation}
use Rattle.tso_fifo.specs.Orders.{order_view, placed_in}
use Rattle.tso_fifo.specs.Search.{HasAllTaken, IsDead, IsDeadKey, IsStart, next_at, problem_of}
use Rattle.tso_fifo.specs.declared.order.Placed.{Placed}
use Rattle.tso_fifo.specs.declared.search.Configuration.{Configuration}
use Rattle.tso_hist.specs.Views.{history_view}
use Rattle.tso_model.specs.States.{Called}
use Rattle.tso_fifo.proofs.search.Search.+extend.Goals as goal

pub returns-then-has_all_taken-clause-found : goal.returns-then-has_all_taken-clause-found
returns-then-has_all_taken-clause-found t c = λ e.
    let s = problem_of c.args.self.now.queue c.args.self.now.history.now c.args.self.now.candidates.now in
    start_whole s c.args.at.now _ c.requires.start (subst (HasAllTaken s) c.as_slice.ensures (c.if-has_all_taken.ensures.0 refl))

pub loop-index-preserved-in_default : goal.loop-index-preserved-in_default
loop-index-preserved-in_default t c =
    let s = problem_of c.args.self.now.queue c.args.self.now.history.now c.args.self.now.candidates.now in
    let p = get_or c.args.self.now.candidates.now c.loop-index.index _ in
    let here = slice_get-get_or c.args.self.now.candidates.now c.loop-index.index _ c.loop-index-test.true in
    tried_more s c.args.at.now c.args.order.now c.loop-index.order c.loop-index.order c.loop-index.dead.keys c.loop-index.dead.keys c.loop-index.index p c.loop-index.invariant c.loop-index.invariant.same here
    (dead_by_none s c.args.at.now c.loop-index.index p here c.in_default.ensures.found) c.loop-index.invariant.known

-- the order with one more call
grown : (h : List (List Called)) (before now new : List Placed) (x : Placed) → now ≡ before → new ≡ now ++ x ∷ [] → order_view h new ≡ order_view h before ++ placed_in h x ∷ []
grown h before now new x same e = ap (order_view h) (e ∙ ap (λ (o : List Placed). o ++ x ∷ []) same) ∙ map-append (placed_in h) before (x ∷ [])

pub extend-requires : goal.extend-requires
extend-requires t c =
    let h = history_view c.args.self.now.history.now in
    let s = problem_of c.args.self.now.queue c.args.self.now.history.now c.args.self.now.candidates.now in
    let i = c.loop-index.index in
    let p = get_or c.args.self.now.candidates.now i _ in
    let here = slice_get-get_or c.args.self.now.candidates.now i _ c.loop-index-test.true in
    let answer = c.in-Some.answer in
    let x : Placed = record { thread = p.thread; call = p.call; answer = answer } in
    let sound = c.in-Some.ensures.sound in
    let next = c.in_ok-next.ensures p here in
    let start = start_next s c.args.at.now (order_view h c.args.order.now) i p answer c.requires.all here c.requires.start sound in
    let less = open_falls c.args.at.now c.in_ok-next.next i p.kind answer next (flag_down c.args.self.now.candidates.now c.args.at.now.taken i p here c.requires.start.len sound.may.fresh) in
    let d : open_count c.args.at.now.taken ≡ t = c.decreases in (
      omega (arith, less, d),
      (
        c.requires.all,
        (
          subst (λ (a : Configuration). IsStart s a (order_view h c.push.new.self)) (sym next)
              (subst (IsStart s (next_at c.args.at.now i p.kind answer)) (sym (grown h c.args.order.now c.loop-index.order c.push.new.self x c.loop-index.invariant.same c.in_ok-push.ensures.ok)) start),
          c.loop-index.invariant.known,
        ),
      ),
    )

pub loop-index-preserved : goal.loop-index-preserved
loop-index-preserved t c =
    let s = problem_of c.args.self.now.queue c.args.self.now.history.now c.args.self.now.candidates.now in
    let i = c.loop-index.index in
    let p = get_or c.args.self.now.candidates.now i _ in
    let here = slice_get-get_or c.args.self.now.candidates.now i _ c.loop-index-test.true in
    let answer = c.in-Some.answer in
    let x : Placed = record { thread = p.thread; call = p.call; answer = answer } in
    let stays = c.in_ok-extend.ensures.same c.if-branch.false in
    let pushed = c.in_ok-push.ensures.ok ∙ ap (λ (o : List Placed). o ++ x ∷ []) c.loop-index.invariant.same in
    tried_more s c.args.at.now c.args.order.now c.loop-index.order c.pop.new.self c.loop-index.dead.keys c.extend.new.dead.keys i p c.loop-index.invariant
    (pushed_popped c.args.order.now c.extend.new.order c.pop.new.self x (stays ∙ pushed) c.pop.ensures.rest)
    here
    (dead_by_search s c.args.at.now i p answer c.requires.all c.requires.start.len here c.in-Some.ensures.found (subst (IsDead s) (c.in_ok-next.ensures p here) (c.in_ok-extend.ensures.none c.if-branch.false)))
    c.in_ok-extend.ensures.known

pub returns-clause-none : goal.returns-clause-none
returns-clause-none t c = λ e.
    let s = problem_of c.args.self.now.queue c.args.self.now.history.now c.args.self.now.candidates.now in
    none_left s c.args.at.now c.args.order.now c.loop-index.order c.loop-index.dead.keys c.loop-index.index c.requires.all c.loop-index-test.false c.loop-index.invariant
    (λ whole. false≢true (c.if-has_all_taken.ensures.1 (subst (HasAllTaken s) (sym c.as_slice.ensures) whole)))

pub returns-clause-known : goal.returns-clause-known
returns-clause-known t c =
    let s = problem_of c.args.self.now.queue c.args.self.now.history.now c.args.self.now.candidates.now in
    let dead = none_left s c.args.at.now c.args.order.now c.loop-index.order c.loop-index.dead.keys c.loop-index.index c.requires.all c.loop-index-test.false c.loop-index.invariant
    (λ whole. false≢true (c.if-has_all_taken.ensures.1 (subst (HasAllTaken s) (sym c.as_slice.ensures) whole))) in
    let key = subst (IsDeadKey s) (sym c.in_ok-key.ensures) (dead_key s c.args.at.now c.requires.all dead) in
    elim c.in_ok-remember.ensures.others [
      | inl moved ↦ All-permutation (IsDeadKey s) (c.in_ok-key.key ∷ c.loop-index.dead.keys) c.remember.new.keys.keys moved (All-cons (IsDeadKey s) c.in_ok-key.key c.loop-index.dead.keys key c.loop-index.invariant.known)
      | inr same ↦ subst (All (IsDeadKey s)) (sym same) c.loop-index.invariant.known
    ]
