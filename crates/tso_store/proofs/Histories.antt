-- Histories after a call or a return.
use Rattle.std.proofs.Common.{◌≡◌, ℕ, ◌-◌, List, [], ◌∷◌, ◌++◌, length, get_or, None, Some, slice_get, slice_set, refl, sym, ap, ◌∙◌, arith}
use Rattle.std.proofs.lemmas.Option.{get_or_from_slice_get, slice_get_within}
use Rattle.tso_hist.proofs.Viewed.{after_call, after_return}
use Rattle.tso_hist.specs.Views.{history_view}
use Rattle.tso_hist.specs.declared.call.Call.{Call}
use Rattle.tso_line.specs.declared.instruction.CallKind.{CallKind}
use Rattle.tso_model.specs.Events.{CallOf, ReturnOf, after_event}
use Rattle.tso_prog.specs.Views.{answer_view, call_view}
use Rattle.tso_prog.specs.declared.answer.Answer.{Answer}
use Rattle.tso_store.specs.Likes.{counts}

pub begun_view : (h : List (List Call)) (i : ℕ) (kind : CallKind) (cs after : List Call) (result : List (List Call)) → result ≡ slice_set h i after → after ≡ cs ++ record { kind = kind; seen = counts h; answer = None } ∷ []
    → slice_get h i ≡ Some cs → history_view result ≡ after_event (history_view h) (CallOf i (call_view kind))
begun_view h i kind cs after result set long at =
    let new : Call = record { kind = kind; seen = counts h; answer = None } in
    let is : cs ≡ get_or h i [] = sym (get_or_from_slice_get h i cs [] at) in
    ap history_view set ∙ ap (λ (ys : List Call). history_view (slice_set h i ys)) (long ∙ ap (λ (ys : List Call). ys ++ new ∷ []) is) ∙ after_call h i kind (counts h) refl

pub answered_view : (h : List (List Call)) (i : ℕ) (cs after : List Call) (call : Call) (a : Answer) (result : List (List Call)) → result ≡ slice_set h i after
    → after ≡ slice_set cs (length cs - 1) (record call { answer = Some a }) → slice_get h i ≡ Some cs → slice_get cs (length cs - 1) ≡ Some call
    → history_view result ≡ after_event (history_view h) (ReturnOf i (answer_view a))
answered_view h i cs after call a result set here at last =
    let is : cs ≡ get_or h i [] = sym (get_or_from_slice_get h i cs [] at) in
    let some = slice_get_within cs (length cs - 1) call last in
    ap history_view set ∙ ap (λ (ys : List Call). history_view (slice_set h i ys)) here ∙ after_return h i cs call (length cs) a is refl (sym (get_or_from_slice_get cs (length cs - 1) call call last)) (omega (arith, some))
