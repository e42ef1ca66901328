use Rattle.std.proofs.Common.{◌≡◌, ℕ, List, length, Contains, slice_get, arith, subst, refl, inl, inr, ap, sym, ◌∙◌}
use Rattle.std.proofs.lemmas.Bool.{false≢true, cases_lt}
use Rattle.tso_hist.specs.declared.call.Call.{Call}
use Rattle.tso_fifo.specs.Check.{begun_at}
use Rattle.tso_fifo.proofs.Entries.{calls_are, thread_of}
use Rattle.tso_fifo.proofs.check.has_all_returned.Goals as goal

pub returns-then-not-has_returned_of : goal.returns-then-not-has_returned_of
returns-then-not-has_returned_of c =
    let t = c.loop-thread.thread in
    let are = calls_are c.args.history.now c.threads-calls-items.result.now c.calls-item.result c.as_slice.result.now t c.threads-calls-items.ensures (omega arith) c.calls-item.is c.as_slice.ensures in
    (λ e. absurd (false≢true e), λ all. c.if-not-has_returned_of.ensures.1 (λ k d a at has. all t k d a (sym (ap (λ (cs : List Call). slice_get cs k) are) ∙ at) has))

pub loop-thread-preserved : goal.loop-thread-preserved
loop-thread-preserved c = λ t k d a lt at has.
    let u = c.loop-thread.thread in
    let are = calls_are c.args.history.now c.threads-calls-items.result.now c.calls-item.result c.as_slice.result.now u c.threads-calls-items.ensures (omega arith) c.calls-item.is c.as_slice.ensures in
    elim (cases_lt t u) [
      | inl before ↦ c.loop-thread.invariant t k d a before at has
      | inr here ↦
          let same : u ≡ t = omega (arith, here, lt) in
          subst (λ (v : ℕ). Contains c.args.order.now (record { thread = v; call = k; answer = a })) same
          (c.if-not-has_returned_of.ensures.0 refl k d a (ap (λ (cs : List Call). slice_get cs k) are ∙ ap (λ (v : ℕ). begun_at c.args.history.now v k) same ∙ at) has)
    ]

pub returns : goal.returns
returns c = (λ e. λ t k d a at has. c.loop-thread.invariant t k d a (omega (arith, thread_of c.args.history.now t k d at, ap length c.threads-calls-items.ensures)) at has, λ a. refl)
