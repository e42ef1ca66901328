-- The runs of two programs with prologues of different length.
use Rattle.std.proofs.Common.{◌≡◌, ℕ, zero, suc, List, [], ◌∷◌, refl, sym, ap, subst, Some, inl, inr}
use Rattle.std.proofs.lemmas.Option.{none-some, same_Some}
use Rattle.tso_model.specs.Certificate.{IsGood}
use Rattle.tso_model.specs.Labels.{By, Call, Fault, Idle, Kind, Label, Machine, Outside, Run, Running, Step, Thread, call, fault, first_machine, update}
use Rattle.tso_model.specs.Objects.{Mode, Object, Queue}
use Rattle.tso_model.specs.Offers.{Next, actor_of, offer}
use Rattle.tso_model.specs.Programs.{BadAnswer, CallKind, Pop, Push, calls_of}
use Rattle.tso_model.specs.Steps.{Actor, Drains, Exec}
use Rattle.tso_model.proofs.Offered.{steps_are_offers}
use Rattle.tso_client.specs.Covering.{IsBeginning}
use Rattle.tso_client.specs.Goodness.{AllRunsAreGood}
use Rattle.tso_client.specs.Prologues.{ShorterProloguesDoNotServe, long, short}

abbrev first : List ℕ → Machine CallKind
first memory = first_machine long memory

-- thread 1 is in its pop
abbrev second : List ℕ → Machine CallKind
second memory = update (first memory) 1 (record { begun = 1; core = Running Pop Outside; buffer = [] })

abbrev begins : List ℕ → Next CallKind
begins memory = record { kind = Call Pop; machine = second memory }

only : (memory : List ℕ) (a : Actor) (n : Next CallKind) → offer long (first memory) a ≡ Some n → begins memory ≡ n
only memory (Exec zero) n e = absurd (none-some n e)
only memory (Exec (suc zero)) n e = same_Some (begins memory) n e
only memory (Exec (suc (suc i))) n e = absurd (none-some n e)
only memory (Drains zero) n e = absurd (none-some n e)
only memory (Drains (suc zero)) n e = absurd (none-some n e)
only memory (Drains (suc (suc i))) n e = absurd (none-some n e)

none : (memory : List ℕ) (a : Actor) (n : Next CallKind) → offer long (second memory) a ≡ Some n → ⊥
none memory (Exec zero) n e = none-some n e
none memory (Exec (suc zero)) n e = none-some n e
none memory (Exec (suc (suc i))) n e = none-some n e
none memory (Drains zero) n e = none-some n e
none memory (Drains (suc zero)) n e = none-some n e
none memory (Drains (suc (suc i))) n e = none-some n e

good_none : (mode : Mode) (capacity : ℕ) → IsGood (Queue mode capacity) []
good_none mode capacity = (
  (λ i h. h),
  (
    [],
    record {
      once = tt;
      begun = λ o h. absurd h;
      own_answers = λ o a h e. absurd h;
      complete = λ t n a e. absurd (none-some a e);
      in_order = tt;
      allowed = ([], refl);
    },
  ),
)

good_call : (mode : Mode) (capacity i : ℕ) → IsGood (Queue mode capacity) (By i (Call Pop) ∷ [])
good_call mode capacity i = (
  (λ j h. elim h [ inl x ↦ x | inr x ↦ x ]),
  (
    [],
    record {
      once = tt;
      begun = λ o h. absurd h;
      own_answers = λ o a h e. absurd h;
      complete = λ t n a e. absurd (none-some a e);
      in_order = tt;
      allowed = ([], refl);
    },
  ),
)

good : (memory : List ℕ) (mode : Mode) (capacity : ℕ) → AllRunsAreGood long memory (Queue mode capacity)
good memory mode capacity [] m r = good_none mode capacity
good memory mode capacity (By i k ∷ ls) m (mid, x, r) =
    let is = only memory (actor_of (By i k)) _ ((steps_are_offers long (first memory) i k mid).0 x) in
    let kind : Call Pop ≡ k = ap (λ (n : Next CallKind). n.kind) is in
    let there : second memory ≡ mid = ap (λ (n : Next CallKind). n.machine) is in
    rest ls (subst (λ (z : Machine CallKind). Run long z ls m) (sym there) r) kind
  where
    rest : (ls : List Label) → Run long (second memory) ls m → Call Pop ≡ k → IsGood (Queue mode capacity) (By i k ∷ ls)
    rest [] r e = subst (λ (z : Kind). IsGood (Queue mode capacity) (By i z ∷ [])) e (good_call mode capacity i)
    rest (By j l ∷ ls) (mid, x, r) e = absurd (none memory (actor_of (By j l)) _ ((steps_are_offers long (second memory) j l mid).0 x))

bad : (memory : List ℕ) (object : Object) → AllRunsAreGood short memory object → ⊥
bad memory object all =
    let m0 : Machine CallKind = first_machine short memory in
    let t0 : Thread CallKind = record { begun = 0; core = Idle; buffer = [] } in
    let t1 : Thread CallKind = record { begun = 1; core = Running (Push 7) Outside; buffer = [] } in
    let m1 : Machine CallKind = update m0 0 t1 in
    let x : Step short m0 (By 0 (Call (Push 7))) m1 = (t0, refl, call (Push 7) refl refl) in
    let y : Step short m1 (By 0 (Fault BadAnswer)) _ = (t1, refl, fault (Push 7) BadAnswer refl refl) in
    (all (By 0 (Call (Push 7)) ∷ By 0 (Fault BadAnswer) ∷ []) _ (m1, x, (_, y, refl))).0 0 (inr (inl refl))

pub shorter_prologues_do_not_serve : ShorterProloguesDoNotServe
shorter_prologues_do_not_serve = record {
  next = refl;
  start = refl;
  threads = refl;
  prologue = refl;
  calls = begun;
  good = good;
  bad = bad;
}
  where
    begun : (i : ℕ) → IsBeginning (calls_of short i) (calls_of long i)
    begun zero = ([], refl)
    begun (suc zero) = (Pop ∷ [], refl)
    begun (suc (suc i)) = ([], refl)
