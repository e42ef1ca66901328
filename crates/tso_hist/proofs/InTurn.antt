-- Where each thread calls and returns in turn, each event fits the history before it.
use Rattle.std.proofs.Common.{◌≡◌, ◌≢◌, inl, inr, ℕ, zero, suc, ◌+◌, ◌<◌, List, [], ◌∷◌, ◌++◌, map, length, replicate, set, refl, sym, ap, ◌∙◌, subst, arith, append_assoc}
use Rattle.std.proofs.Math.Decide.{ℕ_discrete}
use Rattle.std.proofs.lemmas.Bool.{eq-eqb}
use Rattle.std.proofs.lemmas.Bool.Decides.{eqb_tells}
use Rattle.std.proofs.lemmas.List.{append-nil, length-map, length-set, length-replicate}
use Rattle.tso_hist.specs.Turns.{HistoriesTell, IsInTurn, MayFollow, RunsAreInTurn}
use Rattle.tso_model.specs.Events.{CallOf, Event, ReturnOf, after_event, after_events, call_count, calls_begun, calls_returned, events_of, one_if_same, return_count}
use Rattle.tso_model.specs.Histories.{SameCalls}
use Rattle.tso_model.specs.Programs.{CallKind}
use Rattle.tso_model.specs.States.{Called, answered, begun_call, calls_in, first_history}
use Rattle.tso_model.proofs.Answered.{events_tell}
use Rattle.tso_model.proofs.Fits.{first_fits}
use Rattle.tso_model.proofs.Ordered.{AllFit, Fit, LastClosed, LastOpen, first_empty, in_other, in_same, last_answered, last_begun}

-- all calls of a thread have returned, or all but the last one
data Turn (cs : List Called) (begun done : ℕ) : Type 0 where
  idle : LastClosed cs → begun ≡ done → Turn cs begun done
  busy : LastOpen cs → begun ≡ suc done → Turn cs begun done

is_idle : (cs : List Called) (n m : ℕ) → Turn cs n m → n ≡ m → LastClosed cs
is_idle cs n m (idle c e) same = c
is_idle cs n m (busy o e) same = absurd (omega (arith, e, same))

is_busy : (cs : List Called) (n m : ℕ) → Turn cs n m → n ≡ m + 1 → LastOpen cs
is_busy cs n m (idle c e) same = absurd (omega (arith, e, same))
is_busy cs n m (busy o e) same = o

-- each thread of the history stands where the events leave it
record Stands (n : ℕ) (past : List Event) (h : List (List Called)) : Type 0 where
  threads : length h ≡ n
  turns : (t : ℕ) → Turn (calls_in h t) (calls_begun t past) (calls_returned t past)

begun_more : (t : ℕ) (past : List Event) (e : Event) → calls_begun t (past ++ e ∷ []) ≡ calls_begun t past + call_count t e
begun_more t [] e = omega arith
begun_more t (x ∷ past) e = omega (arith, begun_more t past e)

returned_more : (t : ℕ) (past : List Event) (e : Event) → calls_returned t (past ++ e ∷ []) ≡ calls_returned t past + return_count t e
returned_more t [] e = omega arith
returned_more t (x ∷ past) e = omega (arith, returned_more t past e)

one_here : (t : ℕ) → one_if_same t t ≡ 1
one_here t = rw (eq-eqb t t refl) refl

one_away : (j t : ℕ) → j ≢ t → one_if_same j t ≡ 0
one_away j t ne = elim (eqb_tells j t) [ inl x ↦ absurd (ne x.1) | inr x ↦ rw x.0 refl ]

turn_at : (cs : List Called) (n m n' m' : ℕ) → n ≡ n' → m ≡ m' → Turn cs n m → Turn cs n' m'
turn_at cs n m n' m' e f (idle c g) = idle c (omega (arith, e, f, g))
turn_at cs n m n' m' e f (busy o g) = busy o (omega (arith, e, f, g))

fits : (n : ℕ) (past : List Event) (h : List (List Called)) (e : Event) → Stands n past h → MayFollow n past e → Fit h e
fits n past h (CallOf t k) s may = (omega (arith, s.threads, may.0), is_idle _ _ _ (s.turns t) may.1)
fits n past h (ReturnOf t a) s may = (omega (arith, s.threads, may.0), is_busy _ _ _ (s.turns t) may.1)

stands : (n : ℕ) (past : List Event) (h : List (List Called)) (e : Event) → Stands n past h → MayFollow n past e → Stands n (past ++ e ∷ []) (after_event h e)
stands n past h (CallOf j k) s may = record {
  threads = length-set h j _ ∙ s.threads;
  turns = λ t. go t (ℕ_discrete j t);
}
  where
    go : (t : ℕ) → Dec (j ≡ t) → Turn (calls_in (set h j (calls_in h j ++ begun_call k h ∷ [])) t) (calls_begun t (past ++ CallOf j k ∷ [])) (calls_returned t (past ++ CallOf j k ∷ []))
    go t (yes e) =
        let lt : j < length h = omega (arith, s.threads, may.0) in
        let b = begun_more j past (CallOf j k) in
        let r = returned_more j past (CallOf j k) in
        let one = one_here j in
        let P : ℕ → Type 0 = λ u. Turn (calls_in (set h j (calls_in h j ++ begun_call k h ∷ [])) u) (calls_begun u (past ++ CallOf j k ∷ [])) (calls_returned u (past ++ CallOf j k ∷ [])) in
        subst P e (rw (in_same h j (calls_in h j ++ begun_call k h ∷ []) lt) (busy (last_begun (calls_in h j) (begun_call k h) refl) (omega (arith, b, r, one, may.1))))
    go t (no ne) =
        let b = begun_more t past (CallOf j k) in
        let r = returned_more t past (CallOf j k) in
        let none = one_away j t ne in
        rw (in_other h j t (calls_in h j ++ begun_call k h ∷ []) ne) (turn_at (calls_in h t) _ _ _ _ (omega (arith, b, none)) (omega (arith, r)) (s.turns t))
stands n past h (ReturnOf j a) s may = record {
  threads = length-set h j _ ∙ s.threads;
  turns = λ t. go t (ℕ_discrete j t);
}
  where
    go : (t : ℕ) → Dec (j ≡ t) → Turn (calls_in (set h j (answered a (calls_in h j))) t) (calls_begun t (past ++ ReturnOf j a ∷ [])) (calls_returned t (past ++ ReturnOf j a ∷ []))
    go t (yes e) =
        let lt : j < length h = omega (arith, s.threads, may.0) in
        let b = begun_more j past (ReturnOf j a) in
        let r = returned_more j past (ReturnOf j a) in
        let one = one_here j in
        let P : ℕ → Type 0 = λ u. Turn (calls_in (set h j (answered a (calls_in h j))) u) (calls_begun u (past ++ ReturnOf j a ∷ [])) (calls_returned u (past ++ ReturnOf j a ∷ [])) in
        subst P e (rw (in_same h j (answered a (calls_in h j)) lt) (idle (last_answered a (calls_in h j)) (omega (arith, b, r, one, may.1))))
    go t (no ne) =
        let b = begun_more t past (ReturnOf j a) in
        let r = returned_more t past (ReturnOf j a) in
        let none = one_away j t ne in
        rw (in_other h j t (answered a (calls_in h j)) ne) (turn_at (calls_in h t) _ _ _ _ (omega (arith, b)) (omega (arith, r, none)) (s.turns t))

all_fit : (n : ℕ) (past es : List Event) (h : List (List Called)) → Stands n past h → IsInTurn n (past ++ es) → AllFit h es
all_fit n past [] h s turn = tt
all_fit n past (e ∷ es) h s turn =
    let may = turn past e es refl in (
      fits n past h e s may,
      all_fit n (past ++ e ∷ []) es (after_event h e) (stands n past h e s may) (subst (IsInTurn n) (sym (append_assoc past (e ∷ []) es)) turn),
    )

no_calls : (n : ℕ) → map {A = List CallKind} {B = List Called} (λ ks. []) (replicate n []) ≡ replicate n []
no_calls zero = refl
no_calls (suc n) = ap {B = List (List Called)} (λ r. [] ∷ r) (no_calls n)

pub turns_tell : (n : ℕ) (es : List Event) → IsInTurn n es → SameCalls (after_events (replicate n []) es) es
turns_tell n es turn =
    let kss : List (List CallKind) = replicate n [] in
    let same = no_calls n in
    let start : Stands n [] (map (λ ks. []) kss) = record {
      threads = ap length same ∙ length-replicate {A = List Called} n [];
      turns = λ t. rw (first_empty kss t) (idle tt refl);
    } in
    subst (λ (h : List (List Called)). SameCalls (after_events h es) es) same (events_tell kss es (all_fit n [] es (map (λ ks. []) kss) start turn))

pub histories_tell : HistoriesTell
histories_tell n es h turn is = subst (λ (v : List (List Called)). SameCalls v es) (sym is) (turns_tell n es turn)

-- ---- the events of a run are in turn

-- a thread whose last call is pending has not all of its calls returned
not_both : (cs : List Called) → LastClosed cs → LastOpen cs → ⊥
not_both [] closed o = o
not_both (x ∷ []) (a, e) o = cc
not_both (x ∷ y ∷ ys) closed o = not_both (y ∷ ys) closed o

when_closed : (cs : List Called) (n m : ℕ) → Turn cs n m → LastClosed cs → n ≡ m
when_closed cs n m (idle c e) closed = e
when_closed cs n m (busy o e) closed = absurd (not_both cs closed o)

when_open : (cs : List Called) (n m : ℕ) → Turn cs n m → LastOpen cs → n ≡ m + 1
when_open cs n m (idle c e) o = absurd (not_both cs c o)
when_open cs n m (busy b e) o = omega (arith, e)

follows : (n : ℕ) (past : List Event) (h : List (List Called)) (e : Event) → Stands n past h → Fit h e → MayFollow n past e
follows n past h (CallOf t k) s fit = (omega (arith, s.threads, fit.0), when_closed _ _ _ (s.turns t) fit.1)
follows n past h (ReturnOf t a) s fit = (omega (arith, s.threads, fit.0), when_open _ _ _ (s.turns t) fit.1)

-- what fits the history behind some events follows them in turn
each_follows : (n : ℕ) (past es : List Event) (h : List (List Called)) → Stands n past h → AllFit h es → (mid : List Event) (e : Event) (later : List Event) → es ≡ mid ++ e ∷ later → MayFollow n (past ++ mid) e
each_follows n past [] h s fit [] e later split = cc
each_follows n past [] h s fit (y ∷ mid) e later split = cc
each_follows n past (x ∷ es) h s fit [] e later split =
    let same : x ≡ e = cc in
    let Q : Event → Type 0 = λ v. MayFollow n (past ++ []) v in
    let R : List Event → Type 0 = λ l. MayFollow n l x in
    subst Q same (subst R (sym (append-nil past)) (follows n past h x s fit.0))
each_follows n past (x ∷ es) h s fit (y ∷ mid) e later split =
    let same : x ≡ y = cc in
    let rest : es ≡ mid ++ e ∷ later = cc in
    let may = follows n past h x s fit.0 in
    let there = each_follows n (past ++ x ∷ []) es (after_event h x) (stands n past h x s may) fit.1 mid e later rest in
    let Q : List Event → Type 0 = λ l. MayFollow n l e in
    let R : Event → Type 0 = λ v. MayFollow n (past ++ v ∷ mid) e in
    subst R same (subst Q (append_assoc past (x ∷ []) mid) there)

pub runs_are_in_turn : (F : Type 0) → RunsAreInTurn F
runs_are_in_turn F P memory labels m run =
    let start : Stands (length P.calls) [] (first_history P) = record {
      threads = length-map P.calls _;
      turns = λ t. rw (first_empty P.calls t) (idle tt refl);
    } in
    λ past e later split. each_follows (length P.calls) [] (events_of labels) (first_history P) start (first_fits P memory labels m run) past e later split
