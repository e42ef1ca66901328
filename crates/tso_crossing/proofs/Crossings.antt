-- Where kept states are closed under free actors' moves, or under all, every run is good.
use Rattle.std.proofs.Common.{◌≡◌, ◌≢◌, ℕ, zero, suc, ◌<◌, List, [], ◌∷◌, ◌++◌, length, Bool, Option, Some, None, ◌⊎◌, inl, inr, refl, sym, ◌∙◌, ap, subst, arith}
use Rattle.std.specs.Prelude.{IsTrue}
use Rattle.std.specs.List.{slice_get}
use Rattle.std.proofs.lemmas.Bool.{cases_eq}
use Rattle.std.proofs.lemmas.Option.{none-some, slice_get_within}
use Rattle.tso_model.specs.Certificate.{IsGood}
use Rattle.tso_model.specs.Events.{events_of}
use Rattle.tso_model.specs.Faults.{IsStoppedIn}
use Rattle.tso_model.specs.Labels.{Label, Machine, Run, after_labels, first_machine, machine_of}
use Rattle.tso_model.specs.Linear.{IsOrder, Placed}
use Rattle.tso_model.specs.Measure.{IsRanked}
use Rattle.tso_model.specs.Objects.{Object}
use Rattle.tso_model.specs.Programs.{CallKind, Program}
use Rattle.tso_model.specs.Reasons.{Future, IsFuture}
use Rattle.tso_model.specs.Relation.{IsShaped}
use Rattle.tso_model.specs.WellFormed.{IsWellFormed}
use Rattle.tso_model.specs.Reduce.{Has, Over, Persistent, Steps}
use Rattle.tso_model.specs.States.{State, first_history, first_state}
use Rattle.tso_model.specs.Steps.{Actor, Drains, Exec, step, thread_of}
use Rattle.tso_model.specs.Strictness.{AtLeast}
use Rattle.tso_model.specs.Table.{Table, table_future}
use Rattle.tso_model.proofs.Answered.{histories_tell}
use Rattle.tso_model.proofs.Faults.{runs_reach_ends}
use Rattle.tso_model.proofs.Follow.{first_shaped}
use Rattle.tso_model.proofs.Moves.{at_least_refl, at_least_trans}
use Rattle.tso_model.proofs.Orders.{told}
use Rattle.tso_model.proofs.Persistent.{there}
use Rattle.tso_model.proofs.Reduce.{reduces}
use Rattle.tso_model.proofs.Theorems.{tables_hold_futures, beginnings_are_linearizable, orders_serve_looser}
use Rattle.tso_crossing.specs.Crossings.{EveryCrossedRunIsGood, IsCrossing, LateEndsAreMet}
use Rattle.tso_crossing.specs.Free.{IsWhole}
use Rattle.tso_crossing.specs.Moves.{Extent, perform_all, late_move}
use Rattle.tso_crossing.specs.Own.{IsApart}
use Rattle.tso_crossing.proofs.AsSteps.{as_steps, lates}
use Rattle.tso_crossing.proofs.Dominance.{dominated}
use Rattle.tso_crossing.proofs.Unwritten.{IsUnwritten, Reached, apart_unwritten, reached_unwritten}
use Rattle.tso_crossing.proofs.Free.{free_is_persistent, valid_moves_are_persistent, whole_is_persistent}
use Rattle.tso_crossing.proofs.Past.{holds_opened, late_as_ended, late_simulates}
use Rattle.tso_crossing.proofs.Stays.{first_step}

-- ALL ACTORS THAT HAVE A MOVE

same_actor : (a b : Actor) → (a ≡ b) ⊎ (a ≡ b → ⊥)
same_actor (Exec i) (Exec j) = elim (cases_eq i j) [ inl e ↦ inl (ap Exec e) | inr n ↦ inr (λ e. n (ap thread_of e)) ]
same_actor (Drains i) (Drains j) = elim (cases_eq i j) [ inl e ↦ inl (ap Drains e) | inr n ↦ inr (λ e. n (ap thread_of e)) ]
same_actor (Exec i) (Drains j) = inr (λ e. cc)
same_actor (Drains i) (Exec j) = inr (λ e. cc)

has_or_not : (chosen : List Actor) (a : Actor) → Has chosen a ⊎ (Has chosen a → ⊥)
has_or_not [] a = inr (λ h. h)
has_or_not (c ∷ chosen) a = elim (same_actor c a) [
  | inl e ↦ inl (inl e)
  | inr n ↦ elim (has_or_not chosen a) [ inl h ↦ inl (inr h) | inr none ↦ inr (elim [ inl e ↦ n e | inr h ↦ none h ]) ]
]

module _ {F : Type 0} (p : Program F) (n : Extent) (s : State F) where
  -- it is listed if it has a move
  abbrev if_moves : Actor → Option (State F) → List Actor → List Actor
  if_moves a None rest = rest
  if_moves a (Some s') rest = a ∷ rest

  abbrev movers : ℕ → List Actor
  movers zero = []
  movers (suc k) = if_moves (Exec k) (late_move p n s (Exec k)) (if_moves (Drains k) (late_move p n s (Drains k)) (movers k))

  abbrev Moves : Actor → Type 0
  Moves c = (s' : State F) × (late_move p n s c ≡ Some s')

  listed_moves : (a c : Actor) (o : Option (State F)) (rest : List Actor) → late_move p n s a ≡ o → (Has rest c → Moves c) → Has (if_moves a o rest) c → Moves c
  listed_moves a c None rest e later h = later h
  listed_moves a c (Some s') rest e later (inl is) = (s', subst (λ x. late_move p n s x ≡ Some s') is e)
  listed_moves a c (Some s') rest e later (inr h) = later h

  all_move : (k : ℕ) (c : Actor) → Has (movers k) c → Moves c
  all_move zero c h = absurd h
  all_move (suc k) c h =
      listed_moves (Exec k) c (late_move p n s (Exec k)) (if_moves (Drains k) (late_move p n s (Drains k)) (movers k)) refl
      (listed_moves (Drains k) c (late_move p n s (Drains k)) (movers k) refl (all_move k c)) h

  is_listed : (a : Actor) (s' : State F) (o : Option (State F)) (rest : List Actor) → o ≡ Some s' → Has (if_moves a o rest) a
  is_listed a s' None rest e = absurd (none-some s' e)
  is_listed a s' (Some x) rest e = inl refl

  still_listed : (a c : Actor) (o : Option (State F)) (rest : List Actor) → Has rest c → Has (if_moves a o rest) c
  still_listed a c None rest h = h
  still_listed a c (Some x) rest h = inr h

  below_or_at : (i k : ℕ) → i < suc k → i ≢ k → i < k
  below_or_at i k lt ne = omega (arith, lt, ne)

  listed : (k : ℕ) (c : Actor) (s' : State F) → thread_of c < k → late_move p n s c ≡ Some s' → Has (movers k) c
  listed zero c s' lt e = absurd (omega (arith, lt))
  listed (suc k) (Exec i) s' lt e = elim (cases_eq i k) [
    | inl same ↦ subst (λ x. Has (movers (suc k)) (Exec x)) (sym same) (is_listed (Exec k) s' (late_move p n s (Exec k)) _ (subst (λ x. late_move p n s (Exec x) ≡ Some s') same e))
    | inr other ↦ still_listed (Exec k) (Exec i) (late_move p n s (Exec k)) _ (still_listed (Drains k) (Exec i) (late_move p n s (Drains k)) _ (listed k (Exec i) s' (below_or_at i k lt other) e))
  ]
  listed (suc k) (Drains i) s' lt e = elim (cases_eq i k) [
    | inl same ↦ still_listed (Exec k) (Drains i) (late_move p n s (Exec k)) _ (subst (λ x. Has (if_moves (Drains k) (late_move p n s (Drains k)) (movers k)) (Drains x)) (sym same) (is_listed (Drains k) s' (late_move p n s (Drains k)) _ (subst (λ x. late_move p n s (Drains x) ≡ Some s') same e)))
    | inr other ↦ still_listed (Exec k) (Drains i) (late_move p n s (Exec k)) _ (still_listed (Drains k) (Drains i) (late_move p n s (Drains k)) _ (listed k (Drains i) s' (below_or_at i k lt other) e))
  ]

  is_whole : IsWhole p n s (movers (length s.threads))
  is_whole = (
    all_move (length s.threads),
    λ b s' e.
        let (ms, em, is) = lates p n s s' b e in
        let (m, emb) = first_step p n s b ms em in
        let (t, at) = there p s b m emb in
        listed (length s.threads) b s' (slice_get_within s.threads (thread_of b) t at) e,
  )

-- ENDS

-- where kept states are closed under persistent choices of moves
met : {F : Type 0} (p : Program F) (n : Extent) (W Kept : State F → Type 0) → IsUnwritten p n W
    → ((s s' : State F) (a : Actor) → Kept s → late_move p n s a ≡ Some s' → (c : Actor) × (rest : List Actor) × Persistent (late_move p n) AtLeast s (c ∷ rest) × ((b : Actor) (s'' : State F) → Has (c ∷ rest) b → late_move p n s b ≡ Some s'' → Kept s''))
    → (s t : State F) (steps : List Actor) → W s → Kept s → IsShaped s → Steps (step p) s steps t → Over (step p) t → (r : State F) × Kept r × Over (late_move p n) r × AtLeast r t
met p n W Kept un closed s t steps w k shaped run z =
    let d = dominated p n W un s t steps w shaped run z in
    let (r, kr, zr, hr) = reduces (late_move p n) AtLeast Kept
    (record { decide = has_or_not; same = at_least_refl; trans = at_least_trans; simulates = late_simulates p n; as_ended = late_as_ended p n; choices = closed })
    s s d.end d.moves k (at_least_refl s) d.run d.over in
    (r, kr, zr, at_least_trans r d.end t hr d.stricter)

pub late_ends_are_met : (F : Type 0) → LateEndsAreMet F
late_ends_are_met F p n size sound rank r kept closed s t steps k w own run z =
    met p n (λ x. IsWellFormed p size sound x × Reached p n s x) (λ x. IsTrue (kept x)) (reached_unwritten p n size sound rank r s own) closed s t steps (w, ([], refl)) k (w.histories ∙ sym w.threads) run z

-- THE COMPOSITION

module _ {F : Type 0} (p : Program F) (n : Extent) (memory : List ℕ) (sound : CallKind → F → Bool) (rank : F → ℕ) (t u : Table F) (object : Object) (Kept : State F → Type 0) (r : IsRanked p (length memory) sound rank) (c : IsCrossing p n memory sound t u object Kept) where
  abbrev f : Future F
  f = table_future p u

  laws : IsFuture p (IsWellFormed p (length memory) sound) f
  laws = tables_hold_futures F p (length memory) sound u c.closed_apart

  un : IsUnwritten p n (λ x. IsWellFormed p (length memory) sound x × IsApart p n f x)
  un = apart_unwritten p n (length memory) sound rank r f laws

  -- kept, and still apart
  abbrev KeptApart : State F → Type 0
  KeptApart s = Kept s × IsApart p n f s

  apart_after : (s s' : State F) (b : Actor) → KeptApart s → late_move p n s b ≡ Some s' → IsApart p n f s'
  apart_after s s' b k e =
      let (ms, em, is) = lates p n s s' b e in
      subst (λ x. IsApart p n f x) is (holds_opened p n _ un b s (perform_all s (thread_of b) ms) (c.well_formed s k.0, k.1) (as_steps p n s b ms em)).1

  chosen_whole : (s s' : State F) (a : Actor) → KeptApart s → late_move p n s a ≡ Some s' → ((b : Actor) (s'' : State F) → late_move p n s b ≡ Some s'' → Kept s'') → (xs : List Actor) → IsWhole p n s xs
      → (d : Actor) × (rest : List Actor) × Persistent (late_move p n) AtLeast s (d ∷ rest) × ((b : Actor) (s'' : State F) → Has (d ∷ rest) b → late_move p n s b ≡ Some s'' → KeptApart s'')
  chosen_whole s s' a k e all [] whole = absurd (whole.1 a s' e)
  chosen_whole s s' a k e all (d ∷ rest) whole = (d, rest, whole_is_persistent F p n s (d ∷ rest) whole, λ b s'' h eb. (all b s'' eb, apart_after s s'' b k eb))

  kept_closed : (s s' : State F) (a : Actor) → KeptApart s → late_move p n s a ≡ Some s' → (d : Actor) × (rest : List Actor) × Persistent (late_move p n) AtLeast s (d ∷ rest) × ((b : Actor) (s'' : State F) → Has (d ∷ rest) b → late_move p n s b ≡ Some s'' → KeptApart s'')
  kept_closed s s' a k e = elim (c.choices s s' a k.0 e) [
    | inl (d, free, next) ↦ (
      d,
      [],
      free_is_persistent F p n (length memory) sound rank t u r c.closed c.closed_apart s d (c.well_formed s k.0) k.1 free,
      λ b s'' h eb. (elim h [ inl same ↦ next s'' (subst (λ x. late_move p n s x ≡ Some s'') (sym same) eb) | inr none ↦ absurd none ], apart_after s s'' b k eb),
    )
    | inr (inl all) ↦ chosen_whole s s' a k e all (movers p n s (length s.threads)) (is_whole p n s)
    | inr (inr (d, rest, valid, next)) ↦ (
      d,
      rest,
      valid_moves_are_persistent F p n (length memory) sound rank t u r c.closed c.closed_apart s (d ∷ rest) (c.well_formed s k.0) k.1 valid,
      λ b s'' h eb. (next b s'' h eb, apart_after s s'' b k eb),
    )
  ]

  -- an end that steps reach has no stopped thread, and an order
  good_end : (actors : List Actor) (end : State F) → Steps (step p) (first_state p memory) actors end → Over (step p) end → ((i : ℕ) → IsStoppedIn end i → ⊥) × ((order : List Placed) × IsOrder object end.history order)
  good_end actors end steps over =
      let first = first_state p memory in
      let w = c.well_formed first c.has_initial in
      let (last, (k, apart), z, h) = met p n _ KeptApart un kept_closed first end actors (w, c.apart) (c.has_initial, c.apart) (first_shaped p memory) steps over in
      let (order, l) = c.orders last k z in
      ((λ i (th, at, is). c.unstopped last i k z (th, ap (λ ts. slice_get ts i) h.threads ∙ at, is)), (order, orders_serve_looser F object last end order h l))

  -- every run is good, whichever states are kept
  pub kept_runs_are_good : (ls : List Label) (m : Machine F) → Run p (first_machine p memory) ls m → IsGood object ls
  kept_runs_are_good ls m run =
      let x = runs_reach_ends p (length memory) sound rank r memory ls m run in
      let (up, (order, l)) = good_end x.actors x.state x.steps x.over in
      let tells = histories_tell F p memory (ls ++ x.more) (machine_of x.state) x.run in
      let whole : IsOrder object (after_labels (first_history p) (ls ++ x.more)) order = subst (λ h. IsOrder object h order) x.same l in
      ((λ i f. up i (x.faults i f)), beginnings_are_linearizable F p memory ls m object x.more run (order, told object _ (events_of (ls ++ x.more)) order tells whole))

pub every_crossed_run_is_good : (F : Type 0) → EveryCrossedRunIsGood F
every_crossed_run_is_good F p n memory sound rank t u object kept r c ls m run = kept_runs_are_good p n memory sound rank t u object (λ s. IsTrue (kept s)) r c ls m run
