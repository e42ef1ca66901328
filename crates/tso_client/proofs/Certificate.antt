-- The eight states are a certificate of the small program.
use Rattle.std.proofs.Common.{◌≡◌, ℕ, zero, suc, ◌+◌, Bool, true, List, [], ◌∷◌, length, get_or, Some, None, ◌⊎◌, inl, inr, refl, sym, ◌∙◌, ap, subst, arith}
use Rattle.std.proofs.lemmas.Option.{none-some, same_Some}
use Rattle.tso_model.specs.Certificate.{IsCertificate}
use Rattle.tso_model.specs.Linear.{Placed, IsOrder, Precedes, call_at}
use Rattle.tso_model.specs.Objects.{Queue, Weak}
use Rattle.tso_model.specs.Programs.{Push, Pop, Answer, Refused, Done}
use Rattle.tso_model.specs.Reasons.{Inside, Valid}
use Rattle.tso_model.specs.Reduce.{Has, Over}
use Rattle.tso_model.specs.Faults.{IsStoppedIn}
use Rattle.tso_model.specs.States.{Called, State, CompactThread}
use Rattle.tso_model.specs.Steps.{Actor, Exec, Drains, thread_of, step, move}
use Rattle.tso_model.specs.Table.{Table, IsTableClosed, table_future}
use Rattle.tso_model.specs.WellFormed.{IsWellFormed}
use Rattle.tso_model.proofs.Moves.{move_of}
use Rattle.tso_model.proofs.Theorems.{every_run_is_good, first_is_well_formed, steps_stay_well_formed}
use Rattle.tso_client.specs.Small.{Frame, Stores, AfterStore, Loads, AfterLoad, small, EverySmallRunIsGood}
use Rattle.tso_client.proofs.Frames.{rank, ranked, sound}
use Rattle.tso_client.proofs.OneOf.{Each, each, is_one, one_has}
use Rattle.tso_client.proofs.States.{s0, s1, s2, s3, s4, s5, s6, s7, pushed, popped, Goes, go0, go1, go2, go3, go4, go5, go6}

-- any place may be read and written from any frame
all : Table Frame
all = record { reads = λ f q. true; writes = λ f q. true }

all_closed : IsTableClosed small sound all
unfolding all
all_closed Stores s = (refl, record { reads = λ q h. refl; writes = λ q h. refl })
all_closed AfterStore s = tt
all_closed Loads s = (refl, λ w. record { reads = λ q h. refl; writes = λ q h. refl })
all_closed AfterLoad s = tt

-- THE KEPT STATES

abbrev states : List (State Frame)
states = s0 ∷ s1 ∷ s2 ∷ s3 ∷ s4 ∷ s5 ∷ s6 ∷ s7 ∷ []

kept : State Frame → Bool
kept s = is_one states s

of_kept : (P : State Frame → Type 0) → Each P states → (s : State Frame) → kept s ≡ true → P s
unfolding kept
of_kept P ps s k = each P states s ps (one_has states s k)

kept_all : Each (λ s. kept s ≡ true) states
unfolding kept
kept_all = (refl, (refl, (refl, (refl, (refl, (refl, (refl, (refl, tt))))))))

-- well-formed, one after another
abbrev W : State Frame → Type 0
W = IsWellFormed small 1 sound

next_well : (s : State Frame) (a : Actor) (j : ℕ) (t : State Frame) → Goes s a j t → W s → W t
next_well s a j t g w = steps_stay_well_formed Frame small 1 sound rank (ranked 0 _ _ 1 (omega arith)) s t a w g.goes

all_well : Each W states
all_well =
    let w0 : W s0 = first_is_well_formed Frame small sound (0 ∷ []) in
    let w1 = next_well s0 _ _ s1 go0 w0 in
    let w2 = next_well s1 _ _ s2 go1 w1 in
    let w3 = next_well s2 _ _ s3 go2 w2 in
    let w4 = next_well s3 _ _ s4 go3 w3 in
    let w5 = next_well s4 _ _ s5 go4 w4 in
    let w6 = next_well s5 _ _ s6 go5 w5 in
    let w7 = next_well s6 _ _ s7 go6 w6 in
    (w0, (w1, (w2, (w3, (w4, (w5, (w6, (w7, tt))))))))

-- CHOICES

abbrev Choices : State Frame → Type 0
Choices s = (s' : State Frame) (a : Actor) → step small s a ≡ Some s' →
    (c : Actor) × (rest : List Actor) × ((b : Actor) → Has (c ∷ rest) b → Valid small (table_future small all) s (c ∷ rest) b) ×
    ((b : Actor) (s'' : State Frame) → Has (c ∷ rest) b → step small s b ≡ Some s'' → kept s'' ≡ true)

still : (s : State Frame) (a : Actor) (j : ℕ) (t : State Frame) → Goes s a j t → (d : Actor) → thread_of d ≡ j → move small s d ≡ None
still s a j t g (Exec k) e = subst (λ n. move small s (Exec n) ≡ None) (sym e) g.exec
still s a j t g (Drains k) e = subst (λ n. move small s (Drains n) ≡ None) (sym e) g.drain

choose : (s : State Frame) (a : Actor) (j : ℕ) (t : State Frame) → Goes s a j t → length s.threads ≡ 2 → thread_of a + j ≡ 1 → kept t ≡ true → Choices s
choose s a j t g width sum k = λ s' any e.
    let (m, em, is) = move_of small s t a g.goes in
    let valid : Valid small (table_future small all) s (a ∷ []) a =
    (m, em, λ i lt n. (Inside, λ d at. inr (still s a j t g d (at ∙ (let i' : ℕ = thread_of a in omega (arith, lt, n, width, sum)))))) in (
      a,
      [],
      (λ b h. elim h [ inl q ↦ subst (λ x. Valid small (table_future small all) s (a ∷ []) x) q valid | inr none ↦ absurd none ]),
      (λ b s'' h eb. elim h [
        | inl q ↦ (let same : t ≡ s'' = same_Some t s'' (sym g.goes ∙ (subst (λ x. step small s x ≡ Some s'') (sym q) eb)) in subst (λ x. kept x ≡ true) same k)
        | inr none ↦ absurd none
      ]),
    )

-- AN END

no_exec : (i : ℕ) → step small s7 (Exec i) ≡ None
no_exec zero = refl
no_exec (suc zero) = refl
no_exec (suc (suc i)) = refl

no_drain : (i : ℕ) → step small s7 (Drains i) ≡ None
no_drain zero = refl
no_drain (suc zero) = refl
no_drain (suc (suc i)) = refl

last_choices : Choices s7
last_choices s' (Exec i) e = absurd (none-some s' (sym (no_exec i) ∙ e))
last_choices s' (Drains i) e = absurd (none-some s' (sym (no_drain i) ∙ e))

all_choices : Each Choices states
all_choices =
    let (k0, (k1, (k2, (k3, (k4, (k5, (k6, (k7, x)))))))) = kept_all in (
      choose s0 (Exec 1) 0 s1 go0 refl refl k1,
      (
        choose s1 (Exec 1) 0 s2 go1 refl refl k2,
        (
          choose s2 (Exec 1) 0 s3 go2 refl refl k3,
          (
            choose s3 (Drains 1) 0 s4 go3 refl refl k4,
            (choose s4 (Exec 0) 1 s5 go4 refl refl k5, (choose s5 (Exec 0) 1 s6 go5 refl refl k6, (choose s6 (Exec 0) 1 s7 go6 refl refl k7, (last_choices, tt)))),
          ),
        ),
      ),
    )

abbrev order : List Placed
order = record { thread = 1; number = 0; kind = Push 7; answer = Done } ∷ record { thread = 0; number = 0; kind = Pop; answer = Refused } ∷ []

complete : (thread number : ℕ) (c : Called) (a : Answer) → call_at s7.history thread number ≡ Some c → c.answer ≡ Some a → Has order (record { thread = thread; number = number; kind = c.kind; answer = a })
complete zero zero c a at is =
    let q : popped ≡ c = same_Some popped c at in
    let r : Refused ≡ a = same_Some Refused a (ap (λ (x : Called). x.answer) q ∙ is) in
    inr (inl (λ i. record { thread = 0; number = 0; kind = (q i).kind; answer = r i }))
complete zero (suc n) c a at is = absurd (none-some c at)
complete (suc zero) zero c a at is =
    let q : pushed ≡ c = same_Some pushed c at in
    let r : Done ≡ a = same_Some Done a (ap (λ (x : Called). x.answer) q ∙ is) in
    inl (λ i. record { thread = 1; number = 0; kind = (q i).kind; answer = r i })
complete (suc zero) (suc n) c a at is = absurd (none-some c at)
complete (suc (suc t)) n c a at is = absurd (none-some c at)

is_order : IsOrder (Queue Weak 1) s7.history order
is_order = record {
  once = ((λ y h. elim h [ inl e ↦ (λ t n. (let z = ap (λ (o : Placed). o.thread) e in absurd (omega (arith, z, t)))) | inr none ↦ absurd none ]), ((λ y h. absurd h), tt));
  begun = λ o h. each (λ o. (c : Called) × (call_at s7.history o.thread o.number ≡ Some c) × (c.kind ≡ o.kind) × ((c.answer ≡ None) ⊎ (c.answer ≡ Some o.answer))) order o
      ((pushed, refl, refl, inr refl), ((popped, refl, refl, inr refl), tt)) h;
  complete = complete;
  in_order = (first_first, ((λ y h. absurd h), tt));
  allowed = (7 ∷ [], (7 ∷ [], (omega arith, refl), (7 ∷ [], (tt, refl), refl)));
}
  where
    not_before : Precedes s7.history 0 0 1 0 → ⊥
    not_before (c, at, lt) = let q = ap (λ (x : Called). get_or x.seen 0 0) (same_Some pushed c at) in omega (arith, q, lt)

    first_first : (y : Placed) → Has (record { thread = 0; number = 0; kind = Pop; answer = Refused } ∷ []) y → Precedes s7.history y.thread y.number 1 0 → ⊥
    first_first y (inl e) = subst (λ (o : Placed). Precedes s7.history o.thread o.number 1 0 → ⊥) e not_before
    first_first y (inr none) = absurd none

abbrev Ends : State Frame → Type 0
Ends s = Over (step small) s → ((i : ℕ) → IsStoppedIn s i → ⊥) × ((o : List Placed) × IsOrder (Queue Weak 1) s.history o)

not_over : (s : State Frame) (a : Actor) (j : ℕ) (t : State Frame) → Goes s a j t → Ends s
not_over s a j t g over = absurd (none-some t (sym (over a) ∙ g.goes))

none_stopped : (i : ℕ) → IsStoppedIn s7 i → ⊥
none_stopped zero (t, at, is) = let q = ap (λ (u : CompactThread Frame). u.core) (same_Some _ t at) in cc
none_stopped (suc zero) (t, at, is) = let q = ap (λ (u : CompactThread Frame). u.core) (same_Some _ t at) in cc
none_stopped (suc (suc i)) (t, at, is) = none-some t at

all_ends : Each Ends states
all_ends = (
  not_over s0 _ _ _ go0,
  (
    not_over s1 _ _ _ go1,
    (
      not_over s2 _ _ _ go2,
      (
        not_over s3 _ _ _ go3,
        (
          not_over s4 _ _ _ go4,
          (
            not_over s5 _ _ _ go5,
            (
              not_over s6 _ _ _ go6,
              ((λ over. (none_stopped, (order, is_order))), tt),
            ),
          ),
        ),
      ),
    ),
  ),
)

certificate : IsCertificate small (0 ∷ []) sound all (Queue Weak 1) kept
certificate = record {
  closed = all_closed;
  has_initial = kept_all.0;
  well_formed = of_kept W all_well;
  choices = λ s s' a k e. of_kept Choices all_choices s k s' a e;
  unstopped = λ s i k over. (of_kept Ends all_ends s k over).0 i;
  orders = λ s k over. (of_kept Ends all_ends s k over).1;
}

pub every_small_run_is_good : EverySmallRunIsGood
every_small_run_is_good ls m run = every_run_is_good Frame small (0 ∷ []) sound rank all (Queue Weak 1) kept (ranked 0 _ _ 1 (omega arith)) certificate ls m run
