-- Numbers of ends that are valid at well-formed states with words of 64 bits are in the ranges of their spelling.
use Rattle.std.proofs.Common.{◌≡◌, ◌≢◌, ◌∙◌, ℕ, zero, suc, ◌+◌, ◌*◌, ◌≤◌, ◌<◌, inl, inr, ◌==◌, Bool, true, false, if◌then◌else◌, List, [], ◌∷◌, length, map, Some, slice_get, refl, sym, ap, subst, arith}
use Rattle.std.specs.Prelude.{slice_index_or}
use Rattle.std.specs.List.{All}
use Rattle.std.proofs.lemmas.Bool.{cases_lt, eqb-true, eq-eqb}
use Rattle.std.proofs.lemmas.List.{length-map}
use Rattle.std.proofs.lemmas.Option.{same_Some, slice_get_within}
use Rattle.tso_choose.proofs.NeedLemmas.{nobody}
use Rattle.tso_choose.specs.Choices.{AreReasons, IsRising, actors_of}
use Rattle.tso_choose.specs.Needs.{is_enabled}
use Rattle.tso_choose.specs.declared.choice.Choice.{Choice}
use Rattle.tso_code.specs.Ends.{ChoiceFits, PlacedFits, ReasonFits}
use Rattle.tso_code.specs.Fields.{ListFits}
use Rattle.tso_code.specs.Numbers.{IsWord}
use Rattle.tso_code.specs.States.{AnswerFits}
use Rattle.tso_fifo.specs.Orders.{order_view, placed_in}
use Rattle.tso_fifo.specs.declared.order.Placed.{Placed as Entry}
use Rattle.tso_foot.specs.declared.table.Table.{Table}
use Rattle.tso_hist.specs.Views.{called_view, history_view}
use Rattle.tso_hist.specs.declared.call.Call.{Call}
use Rattle.tso_indep.specs.declared.reason.Reason.{Reason}
use Rattle.tso_rec.specs.Conditions.{AreMovers}
use Rattle.tso_model.specs.Linear.{EachTwo, IsOrder, IsOtherCall, Placed, call_at, placed_calls}
use Rattle.tso_model.specs.Objects.{Mode, Queue, QueueStep, QueueSteps}
use Rattle.tso_model.specs.Programs.{Answer, CallKind, Done, Pop, Push, Refused, Value}
use Rattle.tso_model.specs.Reduce.{Has}
use Rattle.tso_model.specs.States.{Called, calls_in}
use Rattle.tso_prog.specs.Views.{answer_view}
use Rattle.tso_prog.specs.declared.answer.Answer.{Answer as TheirAnswer}
use Rattle.tso_prog.specs.declared.answer.Answer.TheVariants as answers
use Rattle.tso_prog.specs.declared.client.Client.{Client}
use Rattle.tso_judge.proofs.Fitting.{fits, short_calls}
use Rattle.tso_state.proofs.ClientLemmas.{few_threads}
use Rattle.tso_judge.proofs.Lists.{Each, each_append, each_more, each_none, each_rest}
use Rattle.tso_judge.specs.Words.{AnswerHasWord, AreWords, HasWords, KindHasWord}
use Rattle.tso_state.specs.Actors.{number_of, thread_of}
use Rattle.tso_state.specs.Views.{state_of}
use Rattle.tso_state.specs.WellFormed.{IsWellFormed}
use Rattle.tso_state.specs.declared.actor.Actor.{Actor}
use Rattle.tso_state.specs.declared.actor.Actor.TheVariants.{Exec, Drain}
use Rattle.tso_state.specs.declared.state.State.{State}

-- ---- choices

small_number : (a : Actor) (n : ℕ) → thread_of a < n → number_of a < 2 * n
small_number (Exec i) n lt = omega (arith, lt)
small_number (Drain i) n lt = omega (arith, lt)

mover_small : (c : Client) (s : State) (a : Actor) → IsWellFormed c s → is_enabled c s a ≡ true → number_of a < 10
mover_small c s a w on = elim (cases_lt (thread_of a) (length s.threads)) [
  | inl less ↦ omega (arith, small_number a (length s.threads) less, w.sizes.threads, few_threads c)
  | inr ge ↦ absurd (let off : is_enabled c s a ≡ false = nobody c s a ge in let clash : true ≡ false = sym on ∙ off in cc)
]

got_all : {X : Type 0} (P : X → Type 0) (xs : List X) → All P xs → Each P xs
got_all P [] h n x e = absurd cc
got_all P (y ∷ ys) h zero x e = subst P (same_Some y x e) (h 0 y (omega arith))
got_all P (y ∷ ys) h (suc n) x e = got_all P ys (λ k d lt. h (suc k) d (omega (arith, lt))) n x e

-- where numbers rise, each is at least as great as its place
above_place : (list : List Actor) → IsRising list → (k : ℕ) (a : Actor) → slice_get list k ≡ Some a → k ≤ number_of a
above_place list rising zero a e = omega arith
above_place list rising (suc k) a e =
    let lt = slice_get_within list (suc k) a e in
    let (b, at) = there list k (omega (arith, lt)) in
    let low = above_place list rising k b at in
    let less = rising k b a at (e' k e) in
    omega (arith, low, less)
  where
    there : (xs : List Actor) (n : ℕ) → n < length xs → (b : Actor) × (slice_get xs n ≡ Some b)
    there [] n lt = absurd (omega (arith, lt))
    there (x ∷ xs) zero lt = (x, refl)
    there (x ∷ xs) (suc n) lt = there xs n (omega (arith, lt))

    e' : (n : ℕ) → slice_get list (suc n) ≡ Some a → slice_get list (n + 1) ≡ Some a
    e' n at = subst (λ m. slice_get list m ≡ Some a) (omega arith) at

few_movers : (list : List Actor) → IsRising list → Each (λ (a : Actor). number_of a < 10) list → length list ≤ 10
few_movers list rising small = go (length list) refl
  where
    last : (xs : List Actor) (n : ℕ) → length xs ≡ suc n → (b : Actor) × (slice_get xs n ≡ Some b)
    last [] n e = absurd (omega (arith, e))
    last (x ∷ []) zero e = (x, refl)
    last (x ∷ y ∷ ys) zero e = absurd (omega (arith, e))
    last (x ∷ []) (suc n) e = absurd (omega (arith, e))
    last (x ∷ y ∷ ys) (suc n) e = last (y ∷ ys) n (omega (arith, e))

    go : (n : ℕ) → length list ≡ n → length list ≤ 10
    go zero e = omega (arith, e)
    go (suc n) e =
        let (b, at) = last list n e in
        let low = above_place list rising n b at in
        let high = small n b at in
        omega (arith, e, low, high)

moved : (choices : List Choice) (P : Actor → Type 0) → Each (λ (x : Choice). P x.actor) choices → Each P (actors_of choices)
moved [] P h = each_none P
moved (x ∷ xs) P h = each_more P x.actor (actors_of xs) (h zero x refl) (moved xs P (each_rest (λ (y : Choice). P y.actor) x xs h))

any_reasons : (reasons : List Reason) → Each ReasonFits reasons
any_reasons reasons n r e = tt

pub choices_fit : (c : Client) (t : Table) (s : State) (choices : List Choice) → IsWellFormed c s → AreMovers c s choices
    → All (λ (x : Choice). AreReasons c t s (actors_of choices) x.actor x.reasons) choices → ListFits ChoiceFits choices
choices_fit c t s choices w movers reasons =
    let on = got_all (λ (x : Choice). is_enabled c s x.actor ≡ true) choices movers.enabled in
    let given = got_all (λ (x : Choice). AreReasons c t s (actors_of choices) x.actor x.reasons) choices reasons in
    let small : Each (λ (x : Choice). number_of x.actor < 10) choices = λ n x e. mover_small c s x.actor w (on n x e) in
    let few = few_movers (actors_of choices) movers.rising (moved choices (λ (a : Actor). number_of a < 10) small) in
    fits ChoiceFits choices 10 (omega (arith, few, length-map choices (λ (x : Choice). x.actor))) (omega arith)
    (λ n x e. (
      let lt = small n x e in omega (arith, lt),
      fits ReasonFits x.reasons 5 (let count = (given n x e).count in omega (arith, count, w.sizes.threads, few_threads c)) (omega arith) (any_reasons x.reasons),
    ))

-- ---- numbers that differ and are below a bound are few

abbrev Differ : List ℕ → Type 0
Differ [] = Unit {0}
Differ (x ∷ xs) = Each (λ (y : ℕ). x ≢ y) xs × Differ xs

abbrev remove : ℕ → List ℕ → List ℕ
remove n [] = []
remove n (x ∷ xs) = if x == n then xs else x ∷ remove n xs

one_less : (n : ℕ) (xs : List ℕ) → length xs ≤ suc (length (remove n xs))
one_less n [] = omega arith
one_less n (x ∷ xs) = go (x == n) (one_less n xs)
  where
    go : (b : Bool) → length xs ≤ suc (length (remove n xs)) → suc (length xs) ≤ suc (length (if b then xs else x ∷ remove n xs))
    go true h = omega arith
    go false h = omega (arith, h)

still : (P : ℕ → Type 0) (n : ℕ) (xs : List ℕ) → Each P xs → Each P (remove n xs)
still P n [] h = each_none P
still P n (x ∷ xs) h = go (x == n) (still P n xs (each_rest P x xs h))
  where
    go : (b : Bool) → Each P (remove n xs) → Each P (if b then xs else x ∷ remove n xs)
    go true g = each_rest P x xs h
    go false g = each_more P x (remove n xs) (h zero x refl) g

still_differ : (n : ℕ) (xs : List ℕ) → Differ xs → Differ (remove n xs)
still_differ n [] h = tt
still_differ n (x ∷ xs) h = go (x == n) (still_differ n xs h.1)
  where
    go : (b : Bool) → Differ (remove n xs) → Differ (if b then xs else x ∷ remove n xs)
    go true g = h.1
    go false g = (still (λ (y : ℕ). x ≢ y) n xs h.0, g)

gone : (n : ℕ) (xs : List ℕ) → Differ xs → Each (λ (y : ℕ). y ≢ n) (remove n xs)
gone n [] h = each_none (λ (y : ℕ). y ≢ n)
gone n (x ∷ xs) h = go (x == n) refl (gone n xs h.1)
  where
    go : (b : Bool) → (x == n) ≡ b → Each (λ (y : ℕ). y ≢ n) (remove n xs) → Each (λ (y : ℕ). y ≢ n) (if b then xs else x ∷ remove n xs)
    go true e g = λ k y at is. h.0 k y at (eqb-true x n e ∙ sym is)
    go false e g = each_more (λ (y : ℕ). y ≢ n) x (remove n xs) (λ is. let yes : (x == n) ≡ true = eq-eqb x n is in let clash : true ≡ false = sym yes ∙ e in cc) g

few_differ : (n : ℕ) (xs : List ℕ) → Each (λ (y : ℕ). y < n) xs → Differ xs → length xs ≤ n
few_differ zero [] h d = omega arith
few_differ zero (x ∷ xs) h d = absurd (let lt = h zero x refl in omega (arith, lt))
few_differ (suc n) xs h d =
    let rest = few_differ n (remove n xs) (λ k y at. let lt = still (λ (z : ℕ). z < suc n) n xs h k y at in let other = gone n xs d k y at in less y lt other) (still_differ n xs d) in
    omega (arith, one_less n xs, rest)
  where
    less : (y : ℕ) → y < suc n → y ≢ n → y < n
    less y lt other = elim (cases_lt y n) [
      | inl less' ↦ less'
      | inr ge ↦ absurd (other (omega (arith, lt, ge)))
    ]

-- ---- orders

-- call number k of thread t, with at most four calls for each thread
abbrev code : Placed → ℕ
code o = 4 * o.thread + o.number

had : {X Y : Type 0} (f : X → Y) (xs : List X) (k : ℕ) (x : X) → slice_get xs k ≡ Some x → Has (map f xs) (f x)
had f [] k x e = absurd cc
had f (y ∷ ys) zero x e = inl (ap f (same_Some y x e))
had f (y ∷ ys) (suc k) x e = inr (had f ys k x e)

each_had : {X : Type 0} (P : X → Type 0) (xs : List X) → ((x : X) → Has xs x → P x) → Each P xs
each_had P [] h = each_none P
each_had P (x ∷ xs) h = each_more P x xs (h x (inl refl)) (each_had P xs (λ y at. h y (inr at)))

codes_differ : (order : List Placed) → ((o : Placed) → Has order o → o.number < 4) → EachTwo IsOtherCall order → Differ (map code order)
codes_differ [] small once = tt
codes_differ (x ∷ xs) small once = (apart xs (λ y at. small y (inr at)) once.0, codes_differ xs (λ y at. small y (inr at)) once.1)
  where
    apart : (ys : List Placed) → ((y : Placed) → Has ys y → y.number < 4) → ((y : Placed) → Has ys y → IsOtherCall x y) → Each (λ (n : ℕ). code x ≢ n) (map code ys)
    apart [] small' other = each_none (λ (n : ℕ). code x ≢ n)
    apart (y ∷ ys) small' other = each_more (λ (n : ℕ). code x ≢ n) (code y) (map code ys)
        (λ is. let a = small x (inl refl) in let b = small' y (inl refl) in other y (inl refl) (omega (arith, is, a, b)) (omega (arith, is, a, b)))
        (apart ys (λ z at. small' z (inr at)) (λ z at. other z (inr at)))

-- of each call that has begun
record IsBegunIn (s : State) (o : Placed) : Type 0 where
  thread : o.thread < 5
  number : o.number < 4

called_within : (h : List (List Call)) (i k : ℕ) (x : Called) → slice_get (calls_in (history_view h) i) k ≡ Some x → (calls : List Call) × (slice_get h i ≡ Some calls) × (k < length calls)
called_within [] i k x e = absurd cc
called_within (calls ∷ h) zero k x e = (calls, refl, (let lt = slice_get_within (map called_view calls) k x e in omega (arith, lt, length-map calls called_view)))
called_within (calls ∷ h) (suc i) k x e = called_within h i k x e

got_calls : (h : List (List Call)) (i : ℕ) (calls : List Call) → slice_get h i ≡ Some calls → slice_index_or h i [] ≡ calls
got_calls [] i calls e = absurd cc
got_calls (x ∷ xs) zero calls e = same_Some x calls e
got_calls (x ∷ xs) (suc i) calls e = got_calls xs i calls e

begun_small : (c : Client) (s : State) (o : Placed) (x : Called) → IsWellFormed c s → call_at (history_view s.history) o.thread o.number ≡ Some x → IsBegunIn s o
begun_small c s o x w at =
    let found = called_within s.history o.thread o.number x at in
    let short = short_calls c s o.thread w found.0 (got_calls s.history o.thread found.0 found.1) in
    let within = slice_get_within s.history o.thread found.0 found.1 in
    record { thread = omega (arith, within, w.sizes.history, few_threads c); number = (let lt = found.2 in omega (arith, lt, short)) }

-- what goes into a queue are words, and so what comes out are
queue_words : (mode : Mode) (capacity : ℕ) (before : List ℕ) (order : List Placed) (after : List ℕ) → QueueSteps mode capacity before (placed_calls order) after → AreWords before
    → ((o : Placed) → Has order o → KindHasWord o.kind) → (o : Placed) → Has order o → AnswerHasWord o.answer
queue_words mode capacity before [] after steps words kinds o at = absurd at
queue_words mode capacity before (x ∷ xs) after steps words kinds o at =
    go x.kind x.answer refl refl (kinds x (inl refl)) steps.1 (λ mid there. queue_words mode capacity steps.0 xs after steps.2 mid (λ y is. kinds y (inr is)) o there)
  where
    first : AnswerHasWord x.answer → AreWords steps.0 → (AreWords steps.0 → Has xs o → AnswerHasWord o.answer) → AnswerHasWord o.answer
    first own mid deeper = elim at [
      | inl is ↦ subst (λ (y : Placed). AnswerHasWord y.answer) is own
      | inr there ↦ deeper mid there
    ]

    go : (k : CallKind) (a : Answer) → x.kind ≡ k → x.answer ≡ a → KindHasWord k → QueueStep mode capacity before k a steps.0
        → (AreWords steps.0 → Has xs o → AnswerHasWord o.answer) → AnswerHasWord o.answer
    go (Push v) Done e f word step deeper =
        first (subst AnswerHasWord (sym f) tt) (subst AreWords (sym step.1) (each_append IsWord before (v ∷ []) words (each_more IsWord v [] word (each_none IsWord)))) deeper
    go (Push v) Refused e f word step deeper = first (subst AnswerHasWord (sym f) tt) (subst AreWords (sym step.1) words) deeper
    go (Push v) (Value w) e f word step deeper = absurd step
    go Pop (Value v) e f word step deeper =
        let all : AreWords (v ∷ steps.0) = subst AreWords step words in
        first (subst AnswerHasWord (sym f) (all zero v refl)) (each_rest IsWord v steps.0 all) deeper
    go Pop Refused e f word step deeper = first (subst AnswerHasWord (sym f) tt) (subst AreWords (sym step.1) words) deeper
    go Pop Done e f word step deeper = absurd step

their_answer : (a : TheirAnswer) → AnswerHasWord (answer_view a) → AnswerFits a
their_answer answers.Refused h = tt
their_answer answers.Done h = tt
their_answer (answers.Value v) h = h

pub order_fits : (c : Client) (s : State) (mode : Mode) (capacity : ℕ) (order : List Entry) → IsWellFormed c s → HasWords (state_of s)
    → IsOrder (Queue mode capacity) (history_view s.history) (order_view (history_view s.history) order) → ListFits PlacedFits order
order_fits c s mode capacity order w words is =
    let h = history_view s.history in
    let view = placed_in h in
    let small : (o : Placed) → Has (map view order) o → IsBegunIn s o = λ o at. let found = is.begun o at in begun_small c s o found.0 w found.1 in
    let kinds : (o : Placed) → Has (map view order) o → KindHasWord o.kind =
    λ o at. let found = is.begun o at in subst KindHasWord found.2 (words.history o.thread o.number found.0 found.1).kind in
    let answers' = queue_words mode capacity [] (map view order) is.allowed.0 is.allowed.1 (each_none IsWord) kinds in
    let codes : Each (λ (n : ℕ). n < 20) (map code (map view order)) = coded (map view order) (λ o at. let known = small o at in (known.thread, known.number)) in
    let few = few_differ 20 (map code (map view order)) codes (codes_differ (map view order) (λ o at. (small o at).number) is.once) in
    fits PlacedFits order 20 (omega (arith, few, length-map (map view order) code, length-map order view)) (omega arith)
    (λ k p e.
    let at = had view order k p e in
    let known = small (view p) at in
    let thread = known.thread in
    let number = known.number in
    (omega (arith, thread), omega (arith, number), their_answer p.answer (answers' (view p) at)))
  where
    coded : (xs : List Placed) → ((o : Placed) → Has xs o → (o.thread < 5) × (o.number < 4)) → Each (λ (n : ℕ). n < 20) (map code xs)
    coded [] h = each_none (λ (n : ℕ). n < 20)
    coded (x ∷ xs) h = each_more (λ (n : ℕ). n < 20) (code x) (map code xs) (let known = h x (inl refl) in omega (arith, known.0, known.1)) (coded xs (λ o at. h o (inr at)))
