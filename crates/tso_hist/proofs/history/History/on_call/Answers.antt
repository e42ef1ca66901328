use Rattle.std.proofs.Common.{◌≡◌, List, [], ◌∷◌, ◌++◌, map, count_by, is_some, None, get_or, set, sym, ◌∙◌, ap, arith}
use Rattle.std.proofs.lemmas.List.{get_or_default, take_all}
use Rattle.tso_hist.specs.declared.call.Call.{Call}
use Rattle.tso_hist.specs.Views.{history_view}
use Rattle.tso_hist.proofs.Viewed.{after_call, on_ok}
use Rattle.tso_hist.proofs.history.History.on_call.Goals as goal

pub returns-clause-ok : goal.returns-clause-ok
returns-clause-ok c =
    let h : List (List Call) = c.self.inside.threads in
    let t = c.args.thread in
    let cs : List Call = c.at_mut.result.now in
    let new : Call = record { kind = c.args.kind; seen = c.loop-calls.seen; answer = None } in
    let is : cs ≡ get_or h t [] = c.at_mut.ensures.value ∙ get_or_default h t cs [] (omega (arith, c.len.ensures, c.if-thread-len.false)) in
    let whole = c.loop-calls.invariant ∙ ap (λ (xs : List (List Call)). map (λ ys. count_by (λ x. is_some x.answer) ys) xs) (take_all c.loop-calls.calls-index c.threads-calls-items.result.now c.loop-calls-test.false ∙ c.threads-calls-items.ensures ∙ sym c.self.view_is) in
    rw (← c.self.view_is) (on_ok c.push-2.result _ _
    (λ (e : c.push-2.new.self ≡ cs ++ new ∷ []).
    ap (λ (xs : List Call). history_view (set h t xs)) (e ∙ ap (λ (xs : List Call). xs ++ new ∷ []) is) ∙ after_call h t c.args.kind c.loop-calls.seen whole)
    c.push-2.ensures.ok)
