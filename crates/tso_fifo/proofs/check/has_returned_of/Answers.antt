use Rattle.std.proofs.Common.{◌≡◌, ℕ, List, Contains, slice_get, arith, subst, refl, inl, inr, ap, sym, ◌∙◌}
use Rattle.std.proofs.lemmas.Bool.{false≢true, cases_lt}
use Rattle.std.proofs.lemmas.Option.{slice_get_read, slice_get_within}
use Rattle.tso_hist.specs.declared.call.Call.{Call}
use Rattle.tso_prog.specs.declared.answer.Answer.{Answer}
use Rattle.tso_fifo.specs.declared.order.Placed.{Placed}
use Rattle.tso_fifo.proofs.check.has_returned_of.Goals.{in-Some+else-not-has_placed, in_default}
use Rattle.tso_fifo.proofs.check.has_returned_of.Goals as goal

same_entry : (order : List Placed) (t k l : ℕ) (a b : Answer) → k ≡ l → a ≡ b → Contains order (record { thread = t; call = l; answer = b }) → Contains order (record { thread = t; call = k; answer = a })
same_entry order t k l a b e f h =
    subst (λ (m : ℕ). Contains order (record { thread = t; call = m; answer = a })) (sym e) (subst (λ (x : Answer). Contains order (record { thread = t; call = l; answer = x })) (sym f) h)

pub returns-then-not-has_placed : goal.returns-then-not-has_placed
returns-then-not-has_placed c = (
  λ e. absurd (false≢true e),
  λ all. c.if-not-has_placed.ensures.1 (all c.loop-call.call c.index-calls-call.result c.in-Some.answer (slice_get_read c.args.calls.now _ c.loop-call.call c.index-calls-call.result refl (omega arith) c.index-calls-call.is) c.in-Some.is),
)

pub loop-call-preserved : goal.loop-call-preserved
loop-call-preserved c = λ k d a lt at has.
    elim (cases_lt k c.loop-call.call) [
      | inl before ↦ c.loop-call.invariant k d a before at has
      | inr here ↦
          let same : k ≡ c.loop-call.call = omega (arith, here, lt) in
          let read = slice_get_read c.args.calls.now _ c.loop-call.call c.index-calls-call.result refl (omega arith) c.index-calls-call.is in
          let at' = ap (slice_get c.args.calls.now) same in
          let is : d ≡ c.index-calls-call.result = cc in
          let has' = ap (λ (x : Call). x.answer) is in
          elim c.match-c.branch [
            | in-Some+else-not-has_placed w ↦ same_entry c.args.order.now c.args.thread k c.loop-call.call a w.in-Some.answer same (cc) (w.if-not-has_placed.ensures.0 refl)
            | in_default w ↦ absurd (w.in_default.not-Some a (sym has' ∙ has))
          ]
    ]

pub returns : goal.returns
returns c = (λ e. λ k d a at has. c.loop-call.invariant k d a (omega (arith, slice_get_within c.args.calls.now k d at)) at has, λ a. refl)
