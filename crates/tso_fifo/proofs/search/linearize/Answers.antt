use Rattle.std.proofs.Common.{◌≡◌, ℕ, Bool, List, [], length, false, replicate, sym, ap, ◌∙◌, subst, arith}
use Rattle.tso_fifo.proofs.Begun.{candidates_are}
use Rattle.tso_fifo.proofs.Completing.{first_at, start_first, whole_completes}
use Rattle.tso_fifo.specs.Candidates.{AreCandidates}
use Rattle.tso_fifo.specs.Orders.{order_view}
use Rattle.tso_fifo.specs.Search.{Completes, IsStart, problem_of}
use Rattle.tso_fifo.specs.declared.candidate.Candidate.{Candidate}
use Rattle.tso_fifo.specs.declared.order.Placed.{Placed}
use Rattle.tso_fifo.specs.declared.search.Configuration.{Configuration}
use Rattle.tso_hist.specs.Views.{history_view}
use Rattle.tso_fifo.proofs.search.linearize.Goals as goal

pub extend-requires-clause-all : goal.extend-requires-clause-all
extend-requires-clause-all c = subst (λ (cs : List Candidate). AreCandidates cs (history_view c.args.history.now)) (sym (c.as_slice.ensures ∙ c.in_ok-candidates.ensures)) (candidates_are c.args.history.now)

-- nothing is taken at first
is_first : (taken : List Bool) (items : List ℕ) (n m : ℕ) → taken ≡ replicate n false → n ≡ m → items ≡ [] → record { taken = taken; items = items } ≡ first_at m
is_first taken items n m none count empty = λ i. record { taken = (none ∙ ap (λ (k : ℕ). replicate k false) count) i; items = empty i }

pub extend-requires-clause-start : goal.extend-requires-clause-start
extend-requires-clause-start c =
    let s = problem_of (record { mode = c.args.mode; capacity = c.args.capacity }) c.args.history.now c.as_slice.result.now in
    let count : c.loop.counter ≡ length c.as_slice.result.now = omega (arith, c.loop-test.false, c.loop.auto.counter-end, c.len-end.ensures, ap length c.as_slice.ensures) in
    let at = is_first c.loop.taken c.new.result c.loop.counter (length c.as_slice.result.now) c.loop.invariant count c.new.ensures in
    subst (λ (a : Configuration). IsStart s a (order_view (history_view c.args.history.now) c.new-order.result)) (sym at)
    (subst (λ (o : List Placed). IsStart s (first_at (length c.as_slice.result.now)) (order_view (history_view c.args.history.now) o)) (sym c.new-order.ensures) (start_first s))

pub returns-clause-none : goal.returns-clause-none
returns-clause-none c = λ (order, l).
    let s = problem_of (record { mode = c.args.mode; capacity = c.args.capacity }) c.args.history.now c.as_slice.result.now in
    let count : c.loop.counter ≡ length c.as_slice.result.now = omega (arith, c.loop-test.false, c.loop.auto.counter-end, c.len-end.ensures, ap length c.as_slice.ensures) in
    let at = is_first c.loop.taken c.new.result c.loop.counter (length c.as_slice.result.now) c.loop.invariant count c.new.ensures in
    c.in_ok-extend.ensures.none c.if-branch.false order (subst (λ (a : Configuration). Completes s a order) (sym at) (whole_completes s order l))
