-- The sample's kept states are a crossing.
use Rattle.std.proofs.Common.{◌≡◌, ◌≢◌, ℕ, zero, suc, ◌<◌, List, [], ◌∷◌, length, Bool, true, false, Option, Some, None, ◌⊎◌, inl, inr, refl, sym, ◌∙◌, ap, subst, arith}
use Rattle.std.specs.Prelude.{IsTrue, ◌&&◌}
use Rattle.std.specs.List.{slice_get}
use Rattle.std.proofs.lemmas.Option.{none-some, same_Some}
use Rattle.tso_model.specs.Faults.{IsStoppedIn}
use Rattle.tso_model.specs.Linear.{IsOrder, Placed, call_at}
use Rattle.tso_model.specs.Measure.{IsRanked}
use Rattle.tso_model.specs.Objects.{Object, Queue, Strict}
use Rattle.tso_model.specs.Programs.{Action, Answer, Barrier, CallKind, Done, Fail, FaultKind, IsAnswerOf, Silent, Store, Load, Locked, Pop, Push, Refused, Ret, Value}
use Rattle.tso_model.specs.Reduce.{Has, Over}
use Rattle.tso_model.specs.Table.{IsTableClosed, table_future}
use Rattle.tso_model.specs.States.{Buffer, Called, CompactCore, CompactThread, Executing, Halted, Resting, State, first_state}
use Rattle.tso_model.specs.Steps.{Actor, Drains, Exec, thread_of}
use Rattle.tso_model.specs.WellFormed.{IsWellFormed}
use Rattle.tso_model.proofs.Own.{state_eq}
use Rattle.tso_model.proofs.Theorems.{first_is_well_formed, steps_stay_well_formed}
use Rattle.tso_crossing.specs.Moves.{late_move}
use Rattle.tso_crossing.specs.Own.{IsApart}
use Rattle.tso_crossing.specs.Sample.{SampleIsCrossed, SampleIsGood, is_history, is_idle, is_one_idle, is_refused, is_zero_word, sample, sample_extent, sample_kept, sample_next, sample_table}
use Rattle.tso_crossing.proofs.AsSteps.{as_steps, lates}
use Rattle.tso_crossing.proofs.Crossings.{every_crossed_run_is_good}

abbrev words : List ℕ
words = 0 ∷ []

abbrev start : State ℕ
start = first_state sample (0 ∷ [])

abbrev refused : Called
refused = record { kind = Pop; seen = 0 ∷ []; answer = Some Refused }

abbrev finish : State ℕ
finish = record { memory = 0 ∷ []; threads = record { core = Resting; buffer = [] } ∷ []; history = (refused ∷ []) ∷ [] }

crosses : late_move sample sample_extent start (Exec 0) ≡ Some finish
crosses = refl

abbrev rank_of : ℕ → ℕ
rank_of zero = 2
rank_of (suc f) = 1

fits : (k : CallKind) (f : ℕ) (a : Answer) → sample_next f ≡ Ret a → IsAnswerOf k a × (0 < rank_of f)
fits k zero a e = cc
fits (Push v) (suc f) a e = let q : Refused ≡ a = cc in (subst (IsAnswerOf (Push v)) q tt, omega arith)
fits Pop (suc f) a e = let q : Refused ≡ a = cc in (subst (IsAnswerOf Pop) q tt, omega arith)

loads : (f q : ℕ) (k : ℕ → ℕ) (v : ℕ) → sample_next f ≡ Load q k → rank_of (k v) < rank_of f
loads zero q k v e = let is : (λ (w : ℕ). 1) ≡ k = cc in subst (λ (g : ℕ → ℕ). rank_of (g v) < 2) is (omega arith)
loads (suc f) q k v e = cc

bad : false ≡ true → ⊥
bad e = cc

not_silent : (f g : ℕ) → sample_next f ≡ Silent g → ⊥
not_silent zero g e = cc
not_silent (suc f) g e = cc

not_store : (f q v g : ℕ) → sample_next f ≡ Store q v g → ⊥
not_store zero q v g e = cc
not_store (suc f) q v g e = cc

not_barrier : (f g : ℕ) → sample_next f ≡ Barrier g → ⊥
not_barrier zero g e = cc
not_barrier (suc f) g e = cc

not_locked : (f q : ℕ) (new k : ℕ → ℕ) → sample_next f ≡ Locked q new k → ⊥
not_locked zero q new k e = cc
not_locked (suc f) q new k e = cc

not_fail : (f : ℕ) (x : FaultKind) → sample_next f ≡ Fail x → ⊥
not_fail zero x e = cc
not_fail (suc f) x e = cc

ranked : IsRanked sample 1 (λ k f. true) rank_of
ranked = record {
  starts = λ i n c e. refl;
  silent = λ c f g s e. absurd (not_silent f g e);
  load = λ c f q k v s e. (refl, loads f q k v e);
  store = λ c f q v g s e. absurd (not_store f q v g e);
  barrier = λ c f g s e. absurd (not_barrier f g e);
  locked = λ c f q new k v s e. absurd (not_locked f q new k e);
  ret = λ c f a s e. fits c f a e;
  fail = λ c f x s e. absurd (not_fail f x e);
}

-- KEPT STATES ARE THE FIRST AND THE LAST

word_is : (m : List ℕ) → IsTrue (is_zero_word m) → m ≡ 0 ∷ []
word_is [] h = absurd (bad h)
word_is (zero ∷ []) h = refl
word_is (zero ∷ x ∷ m) h = absurd (bad h)
word_is (suc w ∷ m) h = absurd (bad h)

idle_is : (t : CompactThread ℕ) → IsTrue (is_idle t.core t.buffer) → t ≡ record { core = Resting; buffer = [] }
idle_is t h = go t.core t.buffer h
  where
    go : (c : CompactCore ℕ) (b : Buffer) → IsTrue (is_idle c b) → ◌≡◌ {A = CompactThread ℕ} (record { core = c; buffer = b }) (record { core = Resting; buffer = [] })
    go Resting [] h = refl
    go Resting (x ∷ b) h = absurd (bad h)
    go (Executing f) b h = absurd (bad h)
    go Halted b h = absurd (bad h)

threads_are : (ts : List (CompactThread ℕ)) → IsTrue (is_one_idle ts) → ts ≡ record { core = Resting; buffer = [] } ∷ []
threads_are [] h = absurd (bad h)
threads_are (t ∷ []) h = ap (λ x. x ∷ []) (idle_is t h)
threads_are (t ∷ u ∷ ts) h = absurd (bad h)

refused_is : (k : CallKind) (seen : List ℕ) (a : Option Answer) → IsTrue (is_refused k seen a) → record { kind = k; seen = seen; answer = a } ≡ refused
refused_is (Push v) seen a h = absurd (bad h)
refused_is Pop [] a h = absurd (bad h)
refused_is Pop (suc n ∷ seen) a h = absurd (bad h)
refused_is Pop (zero ∷ x ∷ seen) a h = absurd (bad h)
refused_is Pop (zero ∷ []) None h = absurd (bad h)
refused_is Pop (zero ∷ []) (Some Refused) h = refl
refused_is Pop (zero ∷ []) (Some Done) h = absurd (bad h)
refused_is Pop (zero ∷ []) (Some (Value v)) h = absurd (bad h)

history_is : (h : List (List Called)) → IsTrue (is_history h) → (h ≡ [] ∷ []) ⊎ (h ≡ (refused ∷ []) ∷ [])
history_is [] h = absurd (bad h)
history_is ([] ∷ []) h = inl refl
history_is ([] ∷ x ∷ hs) h = absurd (bad h)
history_is ((c ∷ []) ∷ []) h = inr (ap (λ x. (x ∷ []) ∷ []) (refused_is c.kind c.seen c.answer h))
history_is ((c ∷ []) ∷ x ∷ hs) h = absurd (bad h)
history_is ((c ∷ d ∷ cs) ∷ hs) h = absurd (bad h)

both : (a b : Bool) → IsTrue (a && b) → IsTrue a × IsTrue b
both true b h = (refl, h)
both false b h = absurd (bad h)

kept_is : (s : State ℕ) → IsTrue (sample_kept s) → (s ≡ start) ⊎ (s ≡ finish)
kept_is s k =
    let (m, rest) = both (is_zero_word s.memory) _ k in
    let (ts, h) = both (is_one_idle s.threads) (is_history s.history) rest in
    elim (history_is s.history h) [
      | inl none ↦ inl (state_eq s start (word_is s.memory m) (threads_are s.threads ts) none)
      | inr one ↦ inr (state_eq s finish (word_is s.memory m) (threads_are s.threads ts) one)
    ]

-- ONE MOVE LEADS FROM ONE TO THE OTHER

from_start : (b : Actor) (s' : State ℕ) → late_move sample sample_extent start b ≡ Some s' → s' ≡ finish
from_start (Exec zero) s' e = sym (same_Some finish s' e)
from_start (Exec (suc i)) s' e = absurd (none-some s' e)
from_start (Drains zero) s' e = absurd (none-some s' e)
from_start (Drains (suc i)) s' e = absurd (none-some s' e)

from_finish : (b : Actor) (s' : State ℕ) → late_move sample sample_extent finish b ≡ Some s' → ⊥
from_finish (Exec zero) s' e = none-some s' e
from_finish (Exec (suc i)) s' e = none-some s' e
from_finish (Drains zero) s' e = none-some s' e
from_finish (Drains (suc i)) s' e = none-some s' e

lead : (s : State ℕ) → (s ≡ start) ⊎ (s ≡ finish) → (b : Actor) (s' : State ℕ) → late_move sample sample_extent s b ≡ Some s' → IsTrue (sample_kept s')
lead s (inl is) b s' e = subst (λ x. IsTrue (sample_kept x)) (sym (from_start b s' (subst (λ x. late_move sample sample_extent x b ≡ Some s') is e))) refl
lead s (inr is) b s' e = absurd (from_finish b s' (subst (λ x. late_move sample sample_extent x b ≡ Some s') is e))

abbrev placed : Placed
placed = record { thread = 0; number = 0; kind = Pop; answer = Refused }

finish_order : IsOrder (Queue Strict 1) finish.history (placed ∷ [])
finish_order = record {
  once = (λ y h. absurd h, tt);
  begun = λ o h. elim h [ inl e ↦ subst Begun e (refused, refl, refl, inr refl) | inr none ↦ absurd none ];
  complete = has;
  in_order = (λ y h. absurd h, tt);
  allowed = ([], ([], (refl, refl), refl));
}
  where
    Begun : Placed → Type 0
    Begun o = (c : Called) × (call_at finish.history o.thread o.number ≡ Some c) × (c.kind ≡ o.kind) × ((c.answer ≡ None) ⊎ (c.answer ≡ Some o.answer))

    has : (thread number : ℕ) (c : Called) (a : Answer) → call_at finish.history thread number ≡ Some c → c.answer ≡ Some a → Has (placed ∷ []) (record { thread = thread; number = number; kind = c.kind; answer = a })
    has zero zero c a at answer =
        let is : refused ≡ c = same_Some refused c at in
        let kind : Pop ≡ c.kind = ap (λ (x : Called). x.kind) is in
        let a_is : Refused ≡ a = same_Some Refused a (ap (λ (x : Called). x.answer) is ∙ answer) in
        inl (λ i. record { thread = 0; number = 0; kind = kind i; answer = a_is i })
    has zero (suc n) c a at answer = absurd (none-some c at)
    has (suc j) n c a at answer = absurd (none-some c at)

not_over_at_start : Over (late_move sample sample_extent) start → ⊥
not_over_at_start z = none-some finish (sym (z (Exec 0)) ∙ crosses)

start_is_well_formed : IsWellFormed sample 1 (λ k f. true) start
start_is_well_formed = first_is_well_formed ℕ sample (λ k f. true) (0 ∷ [])

finish_is_well_formed : IsWellFormed sample 1 (λ k f. true) finish
finish_is_well_formed = steps_stay_well_formed ℕ sample 1 (λ k f. true) rank_of ranked third finish (Exec 0) (steps_stay_well_formed ℕ sample 1 (λ k f. true) rank_of ranked second third (Exec 0) (steps_stay_well_formed ℕ sample 1 (λ k f. true) rank_of ranked start second (Exec 0) start_is_well_formed refl) refl) refl
  where
    second : State ℕ
    second = record { memory = 0 ∷ []; threads = record { core = Executing 0; buffer = [] } ∷ []; history = (record { kind = Pop; seen = 0 ∷ []; answer = None } ∷ []) ∷ [] }

    third : State ℕ
    third = record { memory = 0 ∷ []; threads = record { core = Executing 1; buffer = [] } ∷ []; history = (record { kind = Pop; seen = 0 ∷ []; answer = None } ∷ []) ∷ [] }

well_formed_kept : (s : State ℕ) → (s ≡ start) ⊎ (s ≡ finish) → IsWellFormed sample 1 (λ k f. true) s
well_formed_kept s (inl is) = subst (IsWellFormed sample 1 (λ k f. true)) (sym is) start_is_well_formed
well_formed_kept s (inr is) = subst (IsWellFormed sample 1 (λ k f. true)) (sym is) finish_is_well_formed

closed : IsTableClosed sample (λ k f. true) sample_table
closed zero s = (refl, λ w. record { reads = λ q h. h; writes = λ q h. h })
closed (suc f) s = tt

-- no thread writes
apart_at_start : IsApart sample sample_extent (table_future sample sample_table) start
apart_at_start zero j q ne pro own h = bad h
apart_at_start (suc i) j q ne pro own h = bad h

idle_not_stopped : (ts : List (CompactThread ℕ)) (i : ℕ) (t : CompactThread ℕ) → ts ≡ record { core = Resting; buffer = [] } ∷ [] → slice_get ts i ≡ Some t → t.core ≡ Halted → ⊥
idle_not_stopped ts zero t is at stopped =
    let here : Some (record { core = Resting; buffer = [] }) ≡ Some t = sym (ap (λ xs. slice_get xs 0) is) ∙ at in
    let core : Resting ≡ t.core = ap (λ (x : CompactThread ℕ). x.core) (same_Some _ t here) in
    cc
idle_not_stopped ts (suc i) t is at stopped = none-some t (sym (ap (λ xs. slice_get xs (suc i)) is) ∙ at)

threads_of_kept : (s : State ℕ) → (s ≡ start) ⊎ (s ≡ finish) → s.threads ≡ record { core = Resting; buffer = [] } ∷ []
threads_of_kept s (inl is) = ap (λ (x : State ℕ). x.threads) is
threads_of_kept s (inr is) = ap (λ (x : State ℕ). x.threads) is

ordered : (s : State ℕ) → (s ≡ start) ⊎ (s ≡ finish) → Over (late_move sample sample_extent) s → (order : List Placed) × IsOrder (Queue Strict 1) s.history order
ordered s (inl is) z = absurd (not_over_at_start (subst (Over (late_move sample sample_extent)) is z))
ordered s (inr is) z = subst (λ x. (order : List Placed) × IsOrder (Queue Strict 1) x.history order) (sym is) (placed ∷ [], finish_order)

pub sample_is_crossed : SampleIsCrossed
sample_is_crossed = record {
  closed = closed;
  closed_apart = closed;
  has_initial = refl;
  well_formed = λ s k. well_formed_kept s (kept_is s k);
  apart = apart_at_start;
  choices = λ s s' a k e. inr (inl (λ b s'' eb. lead s (kept_is s k) b s'' eb));
  unstopped = λ s i k z (t, at, stopped). idle_not_stopped s.threads i t (threads_of_kept s (kept_is s k)) at stopped;
  orders = λ s k z. ordered s (kept_is s k) z;
}

pub sample_is_good : SampleIsGood
sample_is_good ls m run = every_crossed_run_is_good ℕ sample sample_extent (0 ∷ []) (λ k f. true) rank_of sample_table sample_table (Queue Strict 1) sample_kept ranked sample_is_crossed ls m run
