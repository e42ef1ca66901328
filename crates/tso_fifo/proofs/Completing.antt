-- Why the search finds an order where there is one.
use Rattle.std.proofs.Common.{◌≡◌, ◌⊎◌, inl, inr, ℕ, zero, suc, ◌+◌, ◌-◌, ◌<◌, ◌≤◌, Bool, true, false, List, [], ◌∷◌, ◌++◌, replicate, length, set, take, Option, Some, None, option_map, slice_get, All, refl, sym, ap, ◌∙◌, subst, arith}
use Rattle.std.proofs.lemmas.Bool.{cases_lt}
use Rattle.std.proofs.lemmas.List.{length-append, length-replicate, length-set, take_at}
use Rattle.std.proofs.lemmas.Option.{none-some, same_Some, slice_get_within}
use Rattle.tso_fifo.proofs.Keys.{taken_at, taken_cases, taken_more, taken_new}
use Rattle.tso_fifo.proofs.Steps.{step_same, steps_push}
use Rattle.tso_fifo.specs.Candidates.{AreCandidates}
use Rattle.tso_fifo.specs.Orders.{kind_of, placed_in}
use Rattle.tso_fifo.specs.Search.{Completes, HasAllTaken, IsDead, IsDeadKey, IsOfUse, IsStart, IsTaken, MayBeNext, Problem, StandsNext, items_after, likely_answer, next_at}
use Rattle.tso_fifo.specs.declared.candidate.Candidate.{Candidate}
use Rattle.tso_fifo.specs.declared.memory.Key.{Key}
use Rattle.tso_fifo.specs.declared.order.Placed as code
use Rattle.tso_fifo.specs.declared.search.Configuration.{Configuration}
use Rattle.tso_line.specs.declared.instruction.CallKind as kinds
use Rattle.tso_line.specs.declared.instruction.CallKind.TheVariants.{Push, Pop}
use Rattle.tso_model.specs.Linear.{EachTwo, IsOrder, IsOtherCall, Placed, Precedes, call_at, placed_calls}
use Rattle.tso_model.specs.Objects.{Mode, Queue, QueueStep, QueueSteps}
use Rattle.tso_model.specs.Programs as model
use Rattle.tso_model.specs.Reduce.{Has}
use Rattle.tso_model.specs.States.{Called}
use Rattle.tso_prog.specs.Views.{answer_view, call_view}
use Rattle.tso_prog.specs.declared.answer.Answer.{Answer}
use Rattle.tso_prog.specs.declared.answer.Answer.TheVariants.{Refused, Done, Value}

-- a fact of one call, told of the same call
pub told_at : (P : ℕ → ℕ → Type 0) (t u k l : ℕ) → t ≡ u → k ≡ l → P t k → P u l
told_at P t u k l e f p = subst (λ (v : ℕ). P v l) e (subst (P t) f p)

-- WHAT A QUEUE HOLDS

pub after_is : (mode : Mode) (capacity : ℕ) (items : List ℕ) (kind : kinds.CallKind) (answer : Answer) (after : List ℕ) → QueueStep mode capacity items (call_view kind) (answer_view answer) after → after ≡ items_after items kind answer
after_is mode capacity items (Push v) Done after p = p.1
after_is mode capacity items (Push v) Refused after p = p.1
after_is mode capacity items (Push v) (Value w) after p = absurd p
after_is mode capacity items Pop Done after p = absurd p
after_is mode capacity items Pop Refused after p = p.1
after_is mode capacity items Pop (Value w) after p = ap tail (sym p)
  where
    tail : List ℕ → List ℕ
    tail [] = []
    tail (x ∷ xs) = xs

refused_stays : (mode : Mode) (capacity : ℕ) (items : List ℕ) (kind : model.CallKind) (answer : model.Answer) (mid : List ℕ) → answer ≡ model.Refused → QueueStep mode capacity items kind answer mid → mid ≡ items
refused_stays mode capacity items (model.Push v) model.Done mid r p = absurd (cc)
refused_stays mode capacity items (model.Push v) model.Refused mid r p = p.1
refused_stays mode capacity items (model.Push v) (model.Value w) mid r p = absurd p
refused_stays mode capacity items model.Pop model.Done mid r p = absurd p
refused_stays mode capacity items model.Pop model.Refused mid r p = p.1
refused_stays mode capacity items model.Pop (model.Value w) mid r p = absurd (cc)

pending_likely : (mode : Mode) (capacity : ℕ) (kind : kinds.CallKind) (answer : model.Answer) (items mid : List ℕ) → QueueStep mode capacity items (call_view kind) answer mid → (answer ≡ model.Refused → ⊥) → option_map answer_view (likely_answer None kind (slice_get items 0)) ≡ Some answer
pending_likely mode capacity (Push v) model.Done items mid p useful = refl
pending_likely mode capacity (Push v) model.Refused items mid p useful = absurd (useful refl)
pending_likely mode capacity (Push v) (model.Value w) items mid p useful = absurd p
pending_likely mode capacity Pop model.Done items mid p useful = absurd p
pending_likely mode capacity Pop model.Refused items mid p useful = absurd (useful refl)
pending_likely mode capacity Pop (model.Value v) [] mid p useful = absurd (cc)
pending_likely mode capacity Pop (model.Value v) (x ∷ xs) mid p useful = let e : x ≡ v = cc in ap (λ (y : ℕ). Some (model.Value y)) e

-- THE FIRST OF THE CALLS THAT ARE LEFT

module _ (s : Problem) (at : Configuration) (e : Placed) (rest : List Placed) (all : Completes s at (e ∷ rest)) where
  -- a refusal of a pending call can be left out
  pub without : (c : Called) → call_at s.history e.thread e.number ≡ Some c → c.answer ≡ None → e.answer ≡ model.Refused → Completes s at rest
  without c here pending refused = record {
    once = all.once.1;
    begun = λ o i. all.begun o (inr i);
    fresh = λ o i. all.fresh o (inr i);
    complete = λ t k d a at' has. elim (all.complete t k d a at' has) [
      | inl there ↦ inl there
      | inr (inl first) ↦
          let same = ap (λ (x : Placed). call_at s.history x.thread x.number) first in
          let is : c ≡ d = same_Some c d (sym here ∙ same ∙ at') in
          absurd (none-some a (sym pending ∙ ap (λ (x : Called). x.answer) is ∙ has))
      | inr (inr later) ↦ inr later
    ];
    in_order = all.in_order.1;
    behind = λ o t k i. all.behind o t k (inr i);
    allowed =
        let (mid, step, steps) = all.allowed.1 in
        (all.allowed.0, subst (λ (q : List ℕ). QueueSteps s.mode s.capacity q (placed_calls rest) all.allowed.0) (refused_stays s.mode s.capacity at.items e.kind e.answer mid refused step) steps);
  }

  module _ (i : ℕ) (p : Candidate) (here : slice_get s.candidates i ≡ Some p) (thread : e.thread ≡ p.thread) (number : e.number ≡ p.call) where
    -- what is left behind it
    pub behind_it : (next : List ℕ) → length at.taken ≡ length s.candidates → QueueStep s.mode s.capacity at.items e.kind e.answer next → Completes s (record { taken = set at.taken i true; items = next }) rest
    behind_it next len step = record {
      once = all.once.1;
      begun = λ o x. all.begun o (inr x);
      fresh = λ o x y. elim (taken_cases s.candidates at.taken i o.thread o.number p here y) [
        | inl old ↦ all.fresh o (inr x) old
        | inr new ↦ all.once.0 o x (thread ∙ new.0) (number ∙ new.1)
      ];
      complete = λ t k d a at' has. elim (all.complete t k d a at' has) [
        | inl there ↦ inl (taken_more s.candidates at.taken i t k there)
        | inr (inl first) ↦ inl (taken_at s.candidates (set at.taken i true) p.thread p.call t k (sym thread ∙ ap (λ (x : Placed). x.thread) first) (sym number ∙ ap (λ (x : Placed). x.number) first) (taken_new s.candidates at.taken i p here len))
        | inr (inr later) ↦ inr later
      ];
      in_order = all.in_order.1;
      behind = λ o t k x y before. elim (taken_cases s.candidates at.taken i t k p here y) [
        | inl old ↦ all.behind o t k (inr x) old before
        | inr new ↦ all.in_order.0 o x (told_at (λ u v. Precedes s.history o.thread o.number u v) t e.thread k e.number (sym (thread ∙ new.0)) (sym (number ∙ new.1)) before)
      ];
      allowed =
          let (mid, step', steps) = all.allowed.1 in
          (all.allowed.0, subst (λ (q : List ℕ). QueueSteps s.mode s.capacity q (placed_calls rest) all.allowed.0) (step_same s.mode s.capacity at.items e.kind e.answer mid next step' step) steps);
    }

    -- it may be the next
    pub may_be : MayBeNext s at.taken p
    may_be = record {
      fresh = λ x. all.fresh e (inl refl) (taken_at s.candidates at.taken p.thread p.call e.thread e.number (sym thread) (sym number) x);
      behind = λ t k x before. all.behind e t k (inl refl) x (told_at (λ u v. Precedes s.history u v t k) p.thread e.thread p.call e.number (sym thread) (sym number) before);
      minimal = λ t k c a at' has free other before. elim (all.complete t k c a at' has) [
        | inl there ↦ free there
        | inr (inl first) ↦ other (sym (ap (λ (x : Placed). x.thread) first) ∙ thread, sym (ap (λ (x : Placed). x.number) first) ∙ number)
        | inr (inr later) ↦ all.in_order.0 _ later (told_at (λ u v. Precedes s.history t k u v) p.thread e.thread p.call e.number (sym thread) (sym number) before)
      ];
    }

    its_call : AreCandidates s.candidates s.history → (c : Called) × (call_at s.history e.thread e.number ≡ Some c) × (call_view p.kind ≡ e.kind) × (c.answer ≡ option_map answer_view p.answer) × ((c.answer ≡ None) ⊎ (c.answer ≡ Some e.answer))
    its_call are =
        let (c, at', kind, answer) = all.begun e (inl refl) in
        let (d, at2, kind', answer') = are.begun i p here in
        let same : d ≡ c = same_Some d c (sym at2 ∙ ap (λ (v : ℕ). call_at s.history v p.call) (sym thread) ∙ ap (call_at s.history e.thread) (sym number) ∙ at') in
        (c, at', sym kind' ∙ ap (λ (x : Called). x.kind) same ∙ kind, ap (λ (x : Called). x.answer) (sym same) ∙ answer', answer)

    -- its answer is the likely one
    pub likely_is : AreCandidates s.candidates s.history → IsOfUse s.history e → option_map answer_view (likely_answer p.answer p.kind (slice_get at.items 0)) ≡ Some e.answer
    likely_is are useful = let (c, at', kind, own, answer) = its_call are in by c at' kind answer p.answer refl own
      where
        by : (c : Called) → call_at s.history e.thread e.number ≡ Some c → call_view p.kind ≡ e.kind → (c.answer ≡ None) ⊎ (c.answer ≡ Some e.answer) → (o : Option Answer) → p.answer ≡ o → c.answer ≡ option_map answer_view p.answer → option_map answer_view (likely_answer p.answer p.kind (slice_get at.items 0)) ≡ Some e.answer
        by c at' kind (inl none) (Some a) is own = absurd (none-some (answer_view a) (sym none ∙ own ∙ ap (option_map answer_view) is))
        by c at' kind (inr some) (Some a) is own = ap (λ (o : Option Answer). option_map answer_view (likely_answer o p.kind (slice_get at.items 0))) is ∙ sym (ap (option_map answer_view) is) ∙ sym own ∙ some
        by c at' kind answer None is own =
            let (mid, step, steps) = all.allowed.1 in
            ap (λ (o : Option Answer). option_map answer_view (likely_answer o p.kind (slice_get at.items 0))) is
            ∙ pending_likely s.mode s.capacity p.kind e.answer at.items mid (subst (λ (k : model.CallKind). QueueStep s.mode s.capacity at.items k e.answer mid) (sym kind) step) (useful c at' (own ∙ ap (option_map answer_view) is))

    -- the queue may give it
    pub its_step : AreCandidates s.candidates s.history → (mid : List ℕ) × QueueStep s.mode s.capacity at.items (call_view p.kind) e.answer mid
    its_step are =
        let (c, at', kind, own, answer) = its_call are in
        let (mid, step, steps) = all.allowed.1 in
        (mid, subst (λ (k : model.CallKind). QueueStep s.mode s.capacity at.items k e.answer mid) (sym kind) step)

-- where nothing of use may be the next and a returned call is missing, nothing completes the order
pub none_completes : (s : Problem) (at : Configuration) → ((e : Placed) (rest : List Placed) → IsOfUse s.history e → Completes s at (e ∷ rest) → ⊥) → (HasAllTaken s at.taken → ⊥) → (rest : List Placed) → Completes s at rest → ⊥
none_completes s at stuck missing [] all =
    missing (λ t k c a at' has. elim (all.complete t k c a at' has) [ inl there ↦ there | inr none ↦ absurd none ])
none_completes s at stuck missing (e ∷ rest) all =
    let (c, at', kind, own) = all.begun e (inl refl) in
    by c at' c.answer refl e.answer refl (none_completes s at stuck missing rest)
  where
    by : (c : Called) → call_at s.history e.thread e.number ≡ Some c → (o : Option model.Answer) → c.answer ≡ o → (a : model.Answer) → e.answer ≡ a → ((Completes s at rest) → ⊥) → ⊥
    by c at' (Some b) has a is fewer = stuck e rest (λ d at2 n r. none-some b (sym n ∙ ap (λ (x : Called). x.answer) (same_Some d c (sym at2 ∙ at')) ∙ has)) all
    by c at' None has model.Refused is fewer = fewer (without s at e rest all c at' has is)
    by c at' None has model.Done is fewer = stuck e rest (λ d at2 n r. absurd (cc)) all
    by c at' None has (model.Value v) is fewer = stuck e rest (λ d at2 n r. absurd (cc)) all

-- ORDERS THAT GROW

has_cases : {X : Type 0} (xs : List X) (y x : X) → Has (xs ++ y ∷ []) x → Has xs x ⊎ (y ≡ x)
has_cases [] y x (inl e) = inr e
has_cases [] y x (inr h) = absurd h
has_cases (z ∷ xs) y x (inl e) = inl (inl e)
has_cases (z ∷ xs) y x (inr h) = elim (has_cases xs y x h) [ inl i ↦ inl (inr i) | inr e ↦ inr e ]

has_left : {X : Type 0} (xs : List X) (y x : X) → Has xs x → Has (xs ++ y ∷ []) x
has_left (z ∷ xs) y x (inl e) = inl e
has_left (z ∷ xs) y x (inr h) = inr (has_left xs y x h)
has_left [] y x h = absurd h

has_end : {X : Type 0} (xs : List X) (y : X) → Has (xs ++ y ∷ []) y
has_end [] y = inl refl
has_end (z ∷ xs) y = inr (has_end xs y)

each_two_push : (R : Placed → Placed → Type 0) (xs : List Placed) (y : Placed) → EachTwo R xs → ((x : Placed) → Has xs x → R x y) → EachTwo R (xs ++ y ∷ [])
each_two_push R [] y two new = ((λ z h. absurd h), tt)
each_two_push R (x ∷ xs) y two new = (
  λ z h. elim (has_cases xs y z h) [ inl i ↦ two.0 z i | inr e ↦ subst (R x) e (new x (inl refl)) ],
  each_two_push R xs y two.1 (λ z h. new z (inr h)),
)

calls_push : (xs : List Placed) (o : Placed) → placed_calls (xs ++ o ∷ []) ≡ placed_calls xs ++ (o.kind, o.answer) ∷ []
calls_push [] o = refl
calls_push (x ∷ xs) o = ap {B = List (model.CallKind × model.Answer)} (λ r. (x.kind, x.answer) ∷ r) (calls_push xs o)

own_answer : (o : Option Answer) (a : Answer) → (o ≡ None) ⊎ (o ≡ Some a) → (option_map answer_view o ≡ None) ⊎ (option_map answer_view o ≡ Some (answer_view a))
own_answer o a (inl n) = inl (ap (option_map answer_view) n)
own_answer o a (inr x) = inr (ap (option_map answer_view) x)

-- one more call that stands next
pub start_next : (s : Problem) (at : Configuration) (order : List Placed) (i : ℕ) (p : Candidate) (answer : Answer) → AreCandidates s.candidates s.history → slice_get s.candidates i ≡ Some p → IsStart s at order → StandsNext s at p answer
    → IsStart s (next_at at i p.kind answer) (order ++ placed_in s.history (record { thread = p.thread; call = p.call; answer = answer }) ∷ [])
start_next s at order i p answer are here start next =
    let o : Placed = placed_in s.history (record { thread = p.thread; call = p.call; answer = answer }) in
    let (c, at', kind, own) = are.begun i p here in
    let its_kind : o.kind ≡ call_view p.kind = ap kind_of at' ∙ kind in
    let (mid, step) = next.allowed in
    let is = after_is s.mode s.capacity at.items p.kind answer mid step in
    record {
      len = length-set at.taken i true ∙ start.len;
      listed = λ t k x. elim (taken_cases s.candidates at.taken i t k p here x) [
        | inl old ↦ let (q, h, e, f) = start.listed t k old in (q, has_left order o q h, e, f)
        | inr new ↦ (o, has_end order o, new.0, new.1)
      ];
      taken = λ q h. elim (has_cases order o q h) [
        | inl old ↦ taken_more s.candidates at.taken i q.thread q.number (start.taken q old)
        | inr new ↦ taken_at s.candidates (set at.taken i true) p.thread p.call q.thread q.number (ap (λ (x : Placed). x.thread) new) (ap (λ (x : Placed). x.number) new) (taken_new s.candidates at.taken i p here start.len)
      ];
      once = each_two_push IsOtherCall order o start.once (λ x h e f. next.may.fresh (taken_at s.candidates at.taken x.thread x.number p.thread p.call e f (start.taken x h)));
      begun = λ q h. elim (has_cases order o q h) [
        | inl old ↦ start.begun q old
        | inr new ↦ subst (λ (z : Placed). (d : Called) × (call_at s.history z.thread z.number ≡ Some d) × (d.kind ≡ z.kind) × ((d.answer ≡ None) ⊎ (d.answer ≡ Some z.answer))) new
            (c, at', sym (ap kind_of at'), elim (own_answer p.answer answer next.own) [ inl n ↦ inl (own ∙ n) | inr y ↦ inr (own ∙ y) ])
      ];
      in_order = each_two_push (λ x y. Precedes s.history y.thread y.number x.thread x.number → ⊥) order o start.in_order (λ x h. next.may.behind x.thread x.number (start.taken x h));
      steps = subst (λ (cs : List (model.CallKind × model.Answer)). QueueSteps s.mode s.capacity [] cs (items_after at.items p.kind answer)) (sym (calls_push order o))
          (steps_push s.mode s.capacity [] at.items (items_after at.items p.kind answer) (placed_calls order) (o.kind, o.answer) start.steps
          (subst (λ (k : model.CallKind). QueueStep s.mode s.capacity at.items k (answer_view answer) (items_after at.items p.kind answer)) (sym its_kind) (subst (QueueStep s.mode s.capacity at.items (call_view p.kind) (answer_view answer)) is step)));
    }

same_answer : (o : Option model.Answer) (a b : model.Answer) → (o ≡ None) ⊎ (o ≡ Some b) → o ≡ Some a → b ≡ a
same_answer o a b (inl n) e = absurd (none-some a (sym n ∙ e))
same_answer o a b (inr x) e = same_Some b a (sym x ∙ e)

-- an order with all returned calls explains the history
pub start_whole : (s : Problem) (at : Configuration) (order : List Placed) → IsStart s at order → HasAllTaken s at.taken → IsOrder (Queue s.mode s.capacity) s.history order
start_whole s at order start whole = record {
  once = start.once;
  begun = start.begun;
  complete = λ t n c a at' is.
      let (o, h, thread, number) = start.listed t n (whole t n c a at' is) in
      let (d, at2, kind, own) = start.begun o h in
      let same : d ≡ c = same_Some d c (sym at2 ∙ ap (λ (v : ℕ). call_at s.history v o.number) thread ∙ ap (call_at s.history t) number ∙ at') in
      let k : o.kind ≡ c.kind = sym kind ∙ ap (λ (x : Called). x.kind) same in
      let ans : o.answer ≡ a = same_answer d.answer a o.answer own (ap (λ (x : Called). x.answer) same ∙ is) in
      let here : o ≡ record { thread = t; number = n; kind = c.kind; answer = a } = λ i. record { thread = thread i; number = number i; kind = k i; answer = ans i } in
      subst (Has order) here h;
  in_order = start.in_order;
  allowed = (at.items, start.steps);
}

abbrev pub first_at : ℕ → Configuration
first_at n = record { taken = replicate n false; items = [] }

none_taken : (cs : List Candidate) (n t k : ℕ) → IsTaken cs (replicate n false) t k → ⊥
none_taken cs n t k x = down n x.index x.set
  where
    down : (n i : ℕ) → slice_get (replicate n false) i ≡ Some true → ⊥
    down zero i e = cc
    down (suc n) zero e = cc
    down (suc n) (suc i) e = down n i e

pub start_first : (s : Problem) → IsStart s (first_at (length s.candidates)) []
start_first s = record {
  len = length-replicate (length s.candidates) false;
  listed = λ t k x. absurd (none_taken s.candidates (length s.candidates) t k x);
  taken = λ o h. absurd h;
  once = tt;
  begun = λ o h. absurd h;
  in_order = tt;
  steps = refl;
}

-- an order of the whole history completes the empty one
pub whole_completes : (s : Problem) (order : List Placed) → IsOrder (Queue s.mode s.capacity) s.history order → Completes s (first_at (length s.candidates)) order
whole_completes s order l = record {
  once = l.once;
  begun = l.begun;
  fresh = λ o h x. none_taken s.candidates (length s.candidates) o.thread o.number x;
  complete = λ t k c a at is. inr (l.complete t k c a at is);
  in_order = l.in_order;
  behind = λ o t k h x before. none_taken s.candidates (length s.candidates) t k x;
  allowed = l.allowed;
}

-- HOW THE SEARCH GOES ON

-- nothing of use may be the next from this candidate
abbrev pub IsDeadEnd : Problem → Configuration → Candidate → Type 0
IsDeadEnd s at p = (e : Placed) (rest : List Placed) → e.thread ≡ p.thread → e.number ≡ p.call → IsOfUse s.history e → Completes s at (e ∷ rest) → ⊥

-- the candidate's next answer is known, if there is one
abbrev pub Finds : Problem → Configuration → Candidate → Option Answer → Type 0
Finds s at p o = (i : ℕ) (e : Placed) (rest : List Placed) → slice_get s.candidates i ≡ Some p → e.thread ≡ p.thread → e.number ≡ p.call → IsOfUse s.history e → Completes s at (e ∷ rest) → option_map answer_view o ≡ Some e.answer

pub dead_by_none : (s : Problem) (at : Configuration) (i : ℕ) (p : Candidate) → slice_get s.candidates i ≡ Some p → Finds s at p None → IsDeadEnd s at p
dead_by_none s at i p here finds e rest thread number useful all = none-some e.answer (finds i e rest here thread number useful all)

-- where the search behind the one answer finds nothing
pub dead_by_search : (s : Problem) (at : Configuration) (i : ℕ) (p : Candidate) (answer : Answer) → AreCandidates s.candidates s.history → length at.taken ≡ length s.candidates → slice_get s.candidates i ≡ Some p → Finds s at p (Some answer) → IsDead s (next_at at i p.kind answer) → IsDeadEnd s at p
dead_by_search s at i p answer are len here finds dead e rest thread number useful all =
    let ans : answer_view answer ≡ e.answer = same_Some (answer_view answer) e.answer (finds i e rest here thread number useful all) in
    let (mid, step) = its_step s at e rest all i p here thread number are in
    let (c, at', kind, own, mine) = its_call s at e rest all i p here thread number are in
    let is = after_is s.mode s.capacity at.items p.kind answer mid (subst (λ (a : model.Answer). QueueStep s.mode s.capacity at.items (call_view p.kind) a mid) (sym ans) step) in
    let left = behind_it s at e rest all i p here thread number mid len (subst (λ (k : model.CallKind). QueueStep s.mode s.capacity at.items k e.answer mid) kind step) in
    dead rest (subst (λ (q : List ℕ). Completes s (record { taken = set at.taken i true; items = q }) rest) is left)

-- the candidates below i were tried, and the order is as it was
pub record HasTried (s : Problem) (at : Configuration) (before order : List code.Placed) (keys : List Key) (i : ℕ) : Type 0 where
  pub same : order ≡ before
  pub tried : (j : ℕ) (p : Candidate) → j < i → slice_get s.candidates j ≡ Some p → IsDeadEnd s at p
  pub known : All (IsDeadKey s) keys

pub tried_more : (s : Problem) (at : Configuration) (before order next : List code.Placed) (keys more : List Key) (i : ℕ) (p : Candidate) → HasTried s at before order keys i → next ≡ before → slice_get s.candidates i ≡ Some p → IsDeadEnd s at p → All (IsDeadKey s) more → HasTried s at before next more (i + 1)
tried_more s at before order next keys more i p h same here dead known = record {
  same = same;
  tried = λ j q lt at' e rest. elim (cases_lt j i) [
    | inl earlier ↦ h.tried j q earlier at' e rest
    | inr now ↦
        let is : j ≡ i = omega (arith, now, lt) in
        let one : p ≡ q = same_Some p q (sym here ∙ ap (slice_get s.candidates) (sym is) ∙ at') in
        subst (IsDeadEnd s at) one dead e rest
  ];
  known = known;
}

-- all were tried
pub none_left : (s : Problem) (at : Configuration) (before order : List code.Placed) (keys : List Key) (i : ℕ) → AreCandidates s.candidates s.history → length s.candidates ≤ i → HasTried s at before order keys i → (HasAllTaken s at.taken → ⊥) → IsDead s at
none_left s at before order keys i are past h missing =
    none_completes s at
    (λ e rest useful all.
    let (c, at', kind, own) = all.begun e (inl refl) in
    let (j, p, here, thread, number) = are.all e.thread e.number c at' in
    h.tried j p (omega (arith, slice_get_within s.candidates j p here, past)) here e rest (sym thread) (sym number) useful all)
    missing

-- THE MEASURE

-- how many candidates the order has not
abbrev pub open_count : List Bool → ℕ
open_count [] = 0
open_count (true ∷ taken) = open_count taken
open_count (false ∷ taken) = 1 + open_count taken

pub open_less : (taken : List Bool) (i : ℕ) → slice_get taken i ≡ Some false → open_count (set taken i true) < open_count taken
open_less [] i e = cc
open_less (true ∷ taken) zero e = cc
open_less (false ∷ taken) zero e = omega arith
open_less (true ∷ taken) (suc i) e = open_less taken i e
open_less (false ∷ taken) (suc i) e = omega (arith, open_less taken i e)

pub open_falls : (at next : Configuration) (i : ℕ) (kind : kinds.CallKind) (answer : Answer) → next ≡ next_at at i kind answer → slice_get at.taken i ≡ Some false → open_count next.taken < open_count at.taken
open_falls at next i kind answer is down = omega (arith, ap (λ (a : Configuration). open_count a.taken) is, open_less at.taken i down)

-- an element pushed and then popped
pub pushed_popped : {X : Type 0} (before now after : List X) (x : X) → now ≡ before ++ x ∷ [] → after ≡ take (length now - 1) now → after ≡ before
pushed_popped before now after x p q =
    let m : length before ≡ length now - 1 = omega (arith, ap length p, length-append before (x ∷ [])) in
    q ∙ ap (take (length now - 1)) p ∙ take_at before (x ∷ []) (length now - 1) m
