-- Whether a history has an order is decided: by the search, without what it remembers.
use Rattle.std.proofs.Common.{◌≡◌, ◌⊎◌, inl, inr, ℕ, zero, suc, ◌+◌, ◌<◌, ◌≤◌, Bool, true, false, List, [], ◌∷◌, ◌++◌, length, get_or, map, Option, Some, None, option_map, slice_get, refl, sym, ap, ◌∙◌, subst, arith, rules}
use Rattle.std.proofs.Math.Decide.{ℕ_discrete, dec_lt}
use Rattle.std.proofs.lemmas.Bool.{cases_lt}
use Rattle.std.proofs.lemmas.Option.{none-some, same_Some, slice_get_within}
use Rattle.tso_fifo.proofs.Begun.{candidates_are}
use Rattle.tso_fifo.proofs.Completing.{Finds, HasTried, dead_by_none, dead_by_search, first_at, its_step, likely_is, may_be, none_left, open_count, open_falls, start_first, start_next, start_whole, tried_more, whole_completes}
use Rattle.tso_fifo.proofs.Keys.{flag_down}
use Rattle.tso_fifo.proofs.Next.{next_in, next_out, none_by, whole_in, whole_out}
use Rattle.tso_fifo.specs.Candidates.{AreCandidates, all_candidates}
use Rattle.tso_fifo.specs.Laws.{OrdersAreDecided}
use Rattle.tso_fifo.specs.Search.{HasAllTaken, IsDead, IsSameCall, IsStart, Lets, MayBeNext, Problem, StandsNext, likely_answer, next_at}
use Rattle.tso_fifo.specs.declared.candidate.Candidate.{Candidate}
use Rattle.tso_fifo.specs.declared.search.Configuration.{Configuration}
use Rattle.tso_hist.specs.Views.{called_view, history_view}
use Rattle.tso_hist.specs.declared.call.Call.{Call}
use Rattle.tso_line.specs.declared.instruction.CallKind.{CallKind}
use Rattle.tso_line.specs.declared.instruction.CallKind.TheVariants.{Push, Pop}
use Rattle.tso_model.specs.Linear.{IsOrder, Placed, Precedes, call_at}
use Rattle.tso_model.specs.Objects.{Mode, Queue, QueueStep, Strict, Weak}
use Rattle.tso_model.specs.Programs as model
use Rattle.tso_model.specs.States.{Called}
use Rattle.tso_prog.specs.Views.{answer_view, call_view}
use Rattle.tso_prog.specs.declared.answer.Answer.{Answer}
use Rattle.tso_prog.specs.declared.answer.Answer.TheVariants.{Refused, Done, Value}

-- it holds, or it does not
abbrev Decided : Type 0 → Type 0
Decided P = P ⊎ (P → ⊥)

-- what holds below a number, or where it fails
abbrev Below : (ℕ → Type 0) → ℕ → Type 0
Below P n = ((k : ℕ) → k < n → P k) ⊎ ((k : ℕ) × (P k → ⊥))

below_more : (P : ℕ → Type 0) (n : ℕ) → Below P n → Decided (P n) → Below P (suc n)
below_more P n (inr x) d = inr x
below_more P n (inl all) (inr bad) = inr (n, bad)
below_more P n (inl all) (inl here) =
    inl (λ k lt. elim (cases_lt k n) [ inl l ↦ all k l | inr past ↦ (let e : n ≡ k = omega (arith, past, lt) in subst P e here) ])

below : (P : ℕ → Type 0) (n : ℕ) → ((k : ℕ) → Decided (P k)) → Below P n
below P zero d = inl (λ k lt. absurd (omega arith))
below P (suc n) d = below_more P n (below P n d) (d n)

there : {X : Type 0} (xs : List X) (i : ℕ) → i < length xs → (x : X) × (slice_get xs i ≡ Some x)
there [] i lt = absurd (omega arith)
there (x ∷ xs) zero lt = (x, refl)
there (x ∷ xs) (suc i) lt = there xs i (omega arith)

-- ---- which call may be next

precedes : (h : List (List Called)) (t k u j : ℕ) → Decided (Precedes h t k u j)
precedes h t k u j = by (call_at h u j) refl
  where
    by : (o : Option Called) → call_at h u j ≡ o → Decided (Precedes h t k u j)
    by None e = inr (λ x. none-some x.0 (sym e ∙ x.1))
    by (Some c) e = elim (dec_lt k (get_or c.seen t 0)) [
      | yes l ↦ inl (c, e, l)
      | no n ↦ inr (λ x. (let Q : Called → Type 0 = λ d. k < get_or d.seen t 0 in n (subst Q (same_Some x.0 c (sym x.1 ∙ e)) x.2)))
    ]

same_call : (p q : Candidate) → Decided (IsSameCall p q)
same_call p q = by (ℕ_discrete p.thread q.thread) (ℕ_discrete p.call q.call)
  where
    by : Dec (p.thread ≡ q.thread) → Dec (p.call ≡ q.call) → Decided (IsSameCall p q)
    by (no n) y = inr (λ s. n s.0)
    by (yes x) (no n) = inr (λ s. n s.1)
    by (yes x) (yes y) = inl (x, y)

is_none : {X : Type 0} (o : Option X) → Decided (o ≡ None)
is_none None = inl refl
is_none (Some x) = inr (λ e. none-some x (sym e))

lets : (h : List (List Called)) (p q : Candidate) (b : Bool) → Decided (Lets h p q b)
lets h p q true = by (same_call q p) (precedes h p.thread p.call q.thread q.call)
  where
    by : Decided (IsSameCall q p) → Decided (Precedes h p.thread p.call q.thread q.call) → Decided (Lets h p q true)
    by (inl s) y = inr (λ l. l.0 s)
    by (inr d) (inl x) = inr (λ l. l.1 x)
    by (inr d) (inr n) = inl (d, n)
lets h p q false = by (same_call q p) (is_none q.answer) (precedes h q.thread q.call p.thread p.call)
  where
    by : Decided (IsSameCall q p) → Decided (q.answer ≡ None) → Decided (Precedes h q.thread q.call p.thread p.call) → Decided (Lets h p q false)
    by (inl s) y z = inl (λ d. absurd (d s))
    by (inr d) (inl e) z = inl (λ x some. absurd (some e))
    by (inr d) (inr some) (inl x) = inr (λ l. l d some x)
    by (inr d) (inr some) (inr n) = inl (λ x y. n)

-- ---- what a queue may answer

queue_step : (mode : Mode) (capacity : ℕ) (items : List ℕ) (kind : CallKind) (answer : Answer) → Decided ((after : List ℕ) × QueueStep mode capacity items (call_view kind) (answer_view answer) after)
queue_step mode capacity items (Push v) Done = elim (dec_lt (length items) capacity) [ yes l ↦ inl (items ++ v ∷ [], (l, refl)) | no n ↦ inr (λ x. n x.1.0) ]
queue_step Strict capacity items (Push v) Refused = elim (ℕ_discrete (length items) capacity) [ yes e ↦ inl (items, (e, refl)) | no n ↦ inr (λ x. n x.1.0) ]
queue_step Weak capacity items (Push v) Refused = inl (items, (tt, refl))
queue_step mode capacity items (Push v) (Value w) = inr (λ x. x.1)
queue_step mode capacity items Pop Done = inr (λ x. x.1)
queue_step Strict capacity [] Pop Refused = inl ([], (refl, refl))
queue_step Strict capacity (x ∷ items) Pop Refused = inr (λ y. (let e = y.1.0 in cc))
queue_step Weak capacity items Pop Refused = inl (items, (tt, refl))
queue_step mode capacity [] Pop (Value w) = inr (λ y. (let e = y.1 in cc))
queue_step mode capacity (x ∷ items) Pop (Value w) = elim (ℕ_discrete x w) [
  | yes e ↦ inl (items, ap (λ (z : ℕ). z ∷ items) e)
  | no n ↦ inr (λ y. n (let e = y.1 in cc))
]

own_of : (o : Option Answer) (kind : CallKind) (front : Option ℕ) (a : Answer) → likely_answer o kind front ≡ Some a → (o ≡ None) ⊎ (o ≡ Some a)
own_of None kind front a e = inl refl
own_of (Some b) kind front a e = inr e

-- ---- the search

module _ (s : Problem) (are : AreCandidates s.candidates s.history) where
  abbrev Found : Type 0
  Found = (order : List Placed) × IsOrder (Queue s.mode s.capacity) s.history order

  -- candidate k lets p be the next
  abbrev LetsAt : List Bool → Candidate → ℕ → Type 0
  LetsAt taken p k = (q : Candidate) (b : Bool) → slice_get s.candidates k ≡ Some q → slice_get taken k ≡ Some b → Lets s.history p q b

  may_be_next : (taken : List Bool) (p : Candidate) → length taken ≡ length s.candidates → Decided (MayBeNext s taken p)
  may_be_next taken p len = elim (below (LetsAt taken p) (length s.candidates) each) [
    | inl all ↦ inl (next_in s taken are len p (λ j q b here flag. all j (slice_get_within s.candidates j q here) q b here flag))
    | inr bad ↦ inr (λ may. bad.1 (next_out s taken are len p may bad.0))
  ]
    where
      each_of : (k : ℕ) (o : Option Candidate) (f : Option Bool) → slice_get s.candidates k ≡ o → slice_get taken k ≡ f → Decided (LetsAt taken p k)
      each_of k None f e g = inl (λ q b here flag. absurd (none-some q (sym e ∙ here)))
      each_of k (Some q) None e g = inl (λ r b here flag. absurd (none-some b (sym g ∙ flag)))
      each_of k (Some q) (Some b) e g = elim (lets s.history p q b) [
        | inl l ↦ inl (λ r d here flag. (let Q : Candidate → Type 0 = λ x. Lets s.history p x d in let R : Bool → Type 0 = λ x. Lets s.history p q x in subst Q (same_Some q r (sym e ∙ here)) (subst R (same_Some b d (sym g ∙ flag)) l)))
        | inr n ↦ inr (λ all. n (all q b e g))
      ]

      each : (k : ℕ) → Decided (LetsAt taken p k)
      each k = each_of k (slice_get s.candidates k) (slice_get taken k) refl refl

  -- candidate k is taken, or pending
  abbrev NotMissing : List Bool → ℕ → Type 0
  NotMissing taken k = (q : Candidate) → slice_get s.candidates k ≡ Some q → slice_get taken k ≡ Some false → q.answer ≡ None

  has_all : (taken : List Bool) → length taken ≡ length s.candidates → Decided (HasAllTaken s taken)
  has_all taken len = elim (below (NotMissing taken) (length s.candidates) each) [
    | inl all ↦ inl (whole_in s taken are len (λ j q here down. all j (slice_get_within s.candidates j q here) q here down))
    | inr bad ↦ inr (λ whole. bad.1 (λ q here down. none_by q.answer (λ some. whole_out s taken are len whole bad.0 q here down some)))
  ]
    where
      each_of : (k : ℕ) (o : Option Candidate) (f : Option Bool) → slice_get s.candidates k ≡ o → slice_get taken k ≡ f → Decided (NotMissing taken k)
      each_of k None f e g = inl (λ q here down. absurd (none-some q (sym e ∙ here)))
      each_of k (Some q) None e g = inl (λ r here down. absurd (none-some false (sym g ∙ down)))
      each_of k (Some q) (Some true) e g = inl (λ r here down. absurd (let d : true ≡ false = same_Some true false (sym g ∙ down) in cc))
      each_of k (Some q) (Some false) e g = elim (is_none q.answer) [
        | inl n ↦ inl (λ r here down. (let Q : Candidate → Type 0 = λ x. x.answer ≡ None in subst Q (same_Some q r (sym e ∙ here)) n))
        | inr some ↦ inr (λ all. some (all q e g))
      ]

      each : (k : ℕ) → Decided (NotMissing taken k)
      each k = each_of k (slice_get s.candidates k) (slice_get taken k) refl refl

  -- the answer with which a candidate is next, or why it has none
  abbrev Answers : Configuration → Candidate → Type 0
  Answers at p = ((answer : Answer) × StandsNext s at p answer × Finds s at p (Some answer)) ⊎ Finds s at p None

  next_answer : (at : Configuration) (p : Candidate) → length at.taken ≡ length s.candidates → Answers at p
  next_answer at p len = by (likely_answer p.answer p.kind (slice_get at.items 0)) refl
    where
      stands : (a : Answer) → likely_answer p.answer p.kind (slice_get at.items 0) ≡ Some a → Decided (MayBeNext s at.taken p) → Decided ((after : List ℕ) × QueueStep s.mode s.capacity at.items (call_view p.kind) (answer_view a) after) → Answers at p
      stands a is (inr n) step = inr (λ i e rest here thread number useful all. absurd (n (may_be s at e rest all i p here thread number)))
      stands a is (inl may) (inr n) = inr (λ i e rest here thread number useful all.
          let ans : e.answer ≡ answer_view a = sym (same_Some (answer_view a) e.answer (sym (ap (option_map answer_view) is) ∙ likely_is s at e rest all i p here thread number are useful)) in
          let Q : model.Answer → Type 0 = λ x. (mid : List ℕ) × QueueStep s.mode s.capacity at.items (call_view p.kind) x mid in
          absurd (n (subst Q ans (its_step s at e rest all i p here thread number are))))
      stands a is (inl may) (inl step) = inl (
        a,
        record { may = may; own = own_of p.answer p.kind (slice_get at.items 0) a is; allowed = step },
        λ i e rest here thread number useful all. sym (ap (option_map answer_view) is) ∙ likely_is s at e rest all i p here thread number are useful,
      )

      by : (o : Option Answer) → likely_answer p.answer p.kind (slice_get at.items 0) ≡ o → Answers at p
      by None is = inr (λ i e rest here thread number useful all. absurd (none-some e.answer (sym (ap (option_map answer_view) is) ∙ likely_is s at e rest all i p here thread number are useful)))
      by (Some a) is = stands a is (may_be_next at.taken p len) (queue_step s.mode s.capacity at.items p.kind a)

  module _ (at : Configuration) (order : List Placed) (start : IsStart s at order) (missing : HasAllTaken s at.taken → ⊥)
      (deeper : (next : Configuration) (longer : List Placed) → IsStart s next longer → open_count next.taken < open_count at.taken → Found ⊎ IsDead s next) where
    one_more : (i : ℕ) (p : Candidate) → slice_get s.candidates i ≡ Some p → HasTried s at [] [] [] i → Answers at p → (HasTried s at [] [] [] (i + 1) → Found ⊎ IsDead s at) → Found ⊎ IsDead s at
    one_more i p here tried (inr finds) go = go (tried_more s at [] [] [] [] [] i p tried refl here (dead_by_none s at i p here finds) tried.known)
    one_more i p here tried (inl (answer, next, finds)) go = elim (deeper (next_at at i p.kind answer) _ (start_next s at order i p answer are here start next) (open_falls at _ i p.kind answer refl (flag_down s.candidates at.taken i p here start.len next.may.fresh))) [
      | inl found ↦ inl found
      | inr dead ↦ go (tried_more s at [] [] [] [] [] i p tried refl here (dead_by_search s at i p answer are start.len here finds dead) tried.known)
    ]

    tries : (left i : ℕ) → i + left ≡ length s.candidates → HasTried s at [] [] [] i → Found ⊎ IsDead s at
    tries zero i count tried = inr (none_left s at [] [] [] i are (omega (arith, count)) tried missing)
    tries (suc left) i count tried =
        let next = there s.candidates i (omega (arith, count)) in
        one_more i next.0 next.1 tried (next_answer at next.0 start.len) (λ more. tries left (i + 1) (omega (arith, count)) more)

  none_tried : (at : Configuration) → HasTried s at [] [] [] 0
  none_tried at = record { same = refl; tried = λ j p lt. absurd (omega arith); known = search rules }

  abbrev Deeper : Configuration → Type 0
  Deeper at = (next : Configuration) (longer : List Placed) → IsStart s next longer → open_count next.taken < open_count at.taken → Found ⊎ IsDead s next

  searched : (at : Configuration) (order : List Placed) → IsStart s at order → Deeper at → Decided (HasAllTaken s at.taken) → Found ⊎ IsDead s at
  searched at order start deeper (inl whole) = inl (order, start_whole s at order start whole)
  searched at order start deeper (inr missing) = tries at order start missing deeper (length s.candidates) 0 (omega arith) (none_tried at)

  extend : (fuel : ℕ) (at : Configuration) (order : List Placed) → IsStart s at order → open_count at.taken ≤ fuel → Found ⊎ IsDead s at
  extend zero at order start le = searched at order start (λ next longer st lt. absurd (omega (arith, le, lt))) (has_all at.taken start.len)
  extend (suc fuel) at order start le = searched at order start (λ next longer st lt. extend fuel next longer st (omega (arith, le, lt))) (has_all at.taken start.len)

  decided : Found ⊎ ((order : List Placed) → IsOrder (Queue s.mode s.capacity) s.history order → ⊥)
  decided = elim (extend (open_count (first_at (length s.candidates)).taken) (first_at (length s.candidates)) [] (start_first s) (omega arith)) [
    | inl found ↦ inl found
    | inr dead ↦ inr (λ order o. dead order (whole_completes s order o))
  ]

-- ---- any counted history

kind_back : model.CallKind → CallKind
kind_back (model.Push v) = Push v
kind_back model.Pop = Pop

answer_back : model.Answer → Answer
answer_back model.Refused = Refused
answer_back model.Done = Done
answer_back (model.Value v) = Value v

call_back : Called → Call
call_back c = record { kind = kind_back c.kind; seen = c.seen; answer = option_map answer_back c.answer }

kind_again : (k : model.CallKind) → call_view (kind_back k) ≡ k
unfolding kind_back
kind_again (model.Push v) = refl
kind_again model.Pop = refl

answer_again : (o : Option model.Answer) → option_map answer_view (option_map answer_back o) ≡ o
unfolding answer_back
answer_again None = refl
answer_again (Some model.Refused) = refl
answer_again (Some model.Done) = refl
answer_again (Some (model.Value v)) = refl

call_again : (c : Called) → called_view (call_back c) ≡ c
unfolding call_back
call_again c = λ i. record { kind = kind_again c.kind i; seen = c.seen; answer = answer_again c.answer i }

calls_again : (cs : List Called) → map called_view (map call_back cs) ≡ cs
calls_again [] = refl
calls_again (c ∷ cs) = λ i. call_again c i ∷ calls_again cs i

history_again : (h : List (List Called)) → history_view (map (map call_back) h) ≡ h
history_again [] = refl
history_again (cs ∷ h) = λ i. calls_again cs i ∷ history_again h i

pub orders_are_decided : OrdersAreDecided
orders_are_decided mode capacity h =
    let code = map (map call_back) h in
    let s : Problem = record { mode = mode; capacity = capacity; history = history_view code; candidates = all_candidates 0 code } in
    let Q : List (List Called) → Type 0 = λ x. ((order : List Placed) × IsOrder (Queue mode capacity) x order) ⊎ ((order : List Placed) → IsOrder (Queue mode capacity) x order → ⊥) in
    subst Q (history_again h) (decided s (candidates_are code))
