-- The laws, put together.
use Rattle.std.proofs.Common.{◌≡◌, ℕ, zero, suc, ◌<◌, ◌==◌, if◌then◌else◌, Bool, true, false, List, [], ◌∷◌, ◌++◌, map, length, refl, sym, ◌∙◌, ap, subst, arith, append_assoc, Some, ◌⊎◌, inl, inr}
use Rattle.std.proofs.Math.Decide.{dec_lt}
use Rattle.std.proofs.lemmas.Bool.Decides.{eqb_tells}
use Rattle.std.proofs.lemmas.Bool.{eq-eqb}
use Rattle.std.proofs.lemmas.List.{append-nil, get_or_past, length-set, length-map}
use Rattle.std.proofs.lemmas.Option.{slice_get_within}
use Rattle.tso_model.specs.Events.{CallOf, Event, ReturnOf, event_of, events_of}
use Rattle.tso_model.specs.Faults.{HasFaultOf}
use Rattle.tso_model.specs.Labels.{By, Call, Drain, Fault, Fence, Kind, Label, Lock, Machine, Read, Reg, Return, Rule, Run, Thread, Unlock, Write, call, drain, fault, fence, first_machine, lock, read, read_locked, reg, return, unlock, write, write_locked}
use Rattle.tso_model.specs.Linear.{IsLinearizable}
use Rattle.tso_model.specs.Programs.{Program, calls_of}
use Rattle.tso_client.specs.Covering.{IsPrologueOf}
use Rattle.tso_client.specs.Goodness.{CoveredRunsAreGood, CoversIsTransitive, ProgramsCoverThemselves}
use Rattle.tso_client.specs.Renamings.{EventsAreRenamed, FaultsAreRenamed, LinearizationsAreRenamed, RunsAreCovered, renamed, renamed_event, renamed_events}
use Rattle.tso_client.proofs.Following as following
use Rattle.tso_client.proofs.Pairs.{AllOf, ArePaired, all_renamed, carried, renamed_back, renamed_place, turned}

-- LABELS

pub events_are_renamed : EventsAreRenamed
events_are_renamed e [] = refl
events_are_renamed e (By i (Call k) ∷ ls) = ap (λ r. renamed_event e (CallOf i k) ∷ r) (events_are_renamed e ls)
events_are_renamed e (By i Reg ∷ ls) = events_are_renamed e ls
events_are_renamed e (By i (Read p v) ∷ ls) = events_are_renamed e ls
events_are_renamed e (By i (Write p v) ∷ ls) = events_are_renamed e ls
events_are_renamed e (By i (Drain p v) ∷ ls) = events_are_renamed e ls
events_are_renamed e (By i Fence ∷ ls) = events_are_renamed e ls
events_are_renamed e (By i Lock ∷ ls) = events_are_renamed e ls
events_are_renamed e (By i Unlock ∷ ls) = events_are_renamed e ls
events_are_renamed e (By i (Return a) ∷ ls) = ap (λ r. renamed_event e (ReturnOf i a) ∷ r) (events_are_renamed e ls)
events_are_renamed e (By i (Fault n) ∷ ls) = events_are_renamed e ls

fault_to : (e : ℕ → ℕ) (ls : List Label) (i : ℕ) → HasFaultOf ls i → HasFaultOf (renamed e ls) (e i)
fault_to e [] i h = h
fault_to e (By j (Fault n) ∷ ls) i (inl q) = inl (ap e q)
fault_to e (By j (Call k) ∷ ls) i (inl q) = absurd q
fault_to e (By j Reg ∷ ls) i (inl q) = absurd q
fault_to e (By j (Read p v) ∷ ls) i (inl q) = absurd q
fault_to e (By j (Write p v) ∷ ls) i (inl q) = absurd q
fault_to e (By j (Drain p v) ∷ ls) i (inl q) = absurd q
fault_to e (By j Fence ∷ ls) i (inl q) = absurd q
fault_to e (By j Lock ∷ ls) i (inl q) = absurd q
fault_to e (By j Unlock ∷ ls) i (inl q) = absurd q
fault_to e (By j (Return a) ∷ ls) i (inl q) = absurd q
fault_to e (l ∷ ls) i (inr h) = inr (fault_to e ls i h)

later_fault : (e : ℕ → ℕ) (l : Label) (ls : List Label) (j : ℕ) → (i : ℕ) × (e i ≡ j) × HasFaultOf ls i → (i : ℕ) × (e i ≡ j) × HasFaultOf (l ∷ ls) i
later_fault e l ls j (i, is, h) = (i, is, inr h)

fault_from : (e : ℕ → ℕ) (ls : List Label) (j : ℕ) → HasFaultOf (renamed e ls) j → (i : ℕ) × (e i ≡ j) × HasFaultOf ls i
fault_from e [] j h = absurd h
fault_from e (By i (Fault n) ∷ ls) j (inl q) = (i, q, inl refl)
fault_from e (By i (Call k) ∷ ls) j (inl q) = absurd q
fault_from e (By i Reg ∷ ls) j (inl q) = absurd q
fault_from e (By i (Read p v) ∷ ls) j (inl q) = absurd q
fault_from e (By i (Write p v) ∷ ls) j (inl q) = absurd q
fault_from e (By i (Drain p v) ∷ ls) j (inl q) = absurd q
fault_from e (By i Fence ∷ ls) j (inl q) = absurd q
fault_from e (By i Lock ∷ ls) j (inl q) = absurd q
fault_from e (By i Unlock ∷ ls) j (inl q) = absurd q
fault_from e (By i (Return a) ∷ ls) j (inl q) = absurd q
fault_from e (l ∷ ls) j (inr h) = later_fault e l ls j (fault_from e ls j h)

pub faults_are_renamed : FaultsAreRenamed
faults_are_renamed e ls = (fault_to e ls, fault_from e ls)

-- THE WAY BACK

-- different numbers go to different numbers
abbrev Apart : (ℕ → ℕ) → ℕ → Type 0
Apart e n = (i j : ℕ) → i < n → j < n → e i ≡ e j → i ≡ j

-- the last number below n that goes to j
back_to : (ℕ → ℕ) → ℕ → ℕ → ℕ
back_to e zero j = zero
back_to e (suc n) j = if e n == j then n else back_to e n j

back_is : (e : ℕ → ℕ) (n : ℕ) → Apart e n → (i : ℕ) → i < n → back_to e n (e i) ≡ i
unfolding back_to
back_is e zero apart i lt = absurd (omega arith)
back_is e (suc n) apart i lt =
    elim (eqb_tells (e n) (e i)) [
      | inl x ↦ rw x.0 (apart n i (omega arith) lt x.1)
      | inr x ↦
          let other : n ≡ i → ⊥ = λ q. false_not (e n == e i) x.0 (eq-eqb (e n) (e i) (ap e q)) in
          rw x.0 (back_is e n (λ j k a b. apart j k (omega (arith, a)) (omega (arith, b))) i (omega (arith, lt, other)))
    ]
  where
    false_not : (b : Bool) → b ≡ false → b ≡ true → ⊥
    false_not b x y = cc

-- a number below n, and one that it goes to
abbrev IsBelow : ℕ → ℕ → Type 0
IsBelow n i = i < n

abbrev IsImage : (ℕ → ℕ) → ℕ → ℕ → Type 0
IsImage e n j = (i : ℕ) × (i < n) × (e i ≡ j)

paired : (e : ℕ → ℕ) (n : ℕ) → Apart e n → ArePaired e (back_to e n) (IsBelow n) (IsImage e n)
paired e n apart = record {
  to = λ i lt. (i, lt, refl);
  from = λ j h. let (i, lt, is) = h in subst (λ (k : ℕ). back_to e n k < n) is (rw (back_is e n apart i lt) lt);
  back = λ i lt. back_is e n apart i lt;
  forth = λ j h. let (i, lt, is) = h in subst (λ (k : ℕ). e (back_to e n k) ≡ k) is (ap e (back_is e n apart i lt));
}

-- THE THREADS OF A RUN

-- the event, if there is one, is of the label's thread
one_below : (n i : ℕ) (k : Kind) (es : List Event) → i < n → AllOf (IsBelow n) es → AllOf (IsBelow n) (event_of (By i k) ++ es)
one_below n i (Call k) es lt h = (lt, h)
one_below n i Reg es lt h = h
one_below n i (Read p v) es lt h = h
one_below n i (Write p v) es lt h = h
one_below n i (Drain p v) es lt h = h
one_below n i Fence es lt h = h
one_below n i Lock es lt h = h
one_below n i Unlock es lt h = h
one_below n i (Return a) es lt h = (lt, h)
one_below n i (Fault x) es lt h = h

module _ {F : Type 0} where
  sized : (P : Program F) (m : Machine F) (i : ℕ) (t : Thread F) {k : Kind} {m' : Machine F} → Rule P m i t k m' → length m'.threads ≡ length m.threads
  sized P m i t (call k idle found) = length-set m.threads i _
  sized P m i t (reg f g running next) = length-set m.threads i _
  sized P m i t (read f p k running next free) = length-set m.threads i _
  sized P m i t (write f p v g running next) = length-set m.threads i _
  sized P m i t (drain p v rest entry free) = length-set m.threads i _
  sized P m i t (fence f g running next empty) = length-set m.threads i _
  sized P m i t (lock f p n k running next free empty) = length-set m.threads i _
  sized P m i t (read_locked f p n k running next free) = length-set m.threads i _
  sized P m i t (write_locked f p n k old running next) = length-set m.threads i _
  sized P m i t (unlock f p n k old running next held empty) = length-set m.threads i _
  sized P m i t (return f a running next) = length-set m.threads i _
  sized P m i t (fault f n running next) = length-set m.threads i _

  all_below : (P : Program F) (n : ℕ) (m m' : Machine F) (ls : List Label) → length m.threads ≡ n → Run P m ls m' → AllOf (IsBelow n) (events_of ls)
  all_below P n m m' [] s r = tt
  all_below P n m m' (By i k ∷ ls) s (mid, (t, at, rule), rest) =
      let lt = slice_get_within m.threads i t at in
      one_below n i k (events_of ls) (omega (arith, lt, s)) (all_below P n mid m' ls (sized P m i t rule ∙ s) rest)

  run_below : (P : Program F) (memory : List ℕ) (ls : List Label) (m : Machine F) → Run P (first_machine P memory) ls m → AllOf (IsBelow (length P.calls)) (events_of ls)
  run_below P memory ls m r = all_below P (length P.calls) (first_machine P memory) m ls (length-map P.calls _) r

  pub linearizations_are_renamed : LinearizationsAreRenamed F
  linearizations_are_renamed e P apart memory ls m r object = (back, forth)
    where
      n : ℕ
      n = length P.calls

      all : AllOf (IsBelow n) (events_of ls)
      all = run_below P memory ls m r

      pairs : ArePaired e (back_to e n) (IsBelow n) (IsImage e n)
      pairs = paired e n apart

      forth : IsLinearizable object (events_of ls) → IsLinearizable object (events_of (renamed e ls))
      forth (order, l) = (
        map (renamed_place e) order,
        rw (events_are_renamed e ls) (carried e (back_to e n) (IsBelow n) (IsImage e n) pairs object (events_of ls) order all l),
      )

      back : IsLinearizable object (events_of (renamed e ls)) → IsLinearizable object (events_of ls)
      back (order, l) = (
        map (renamed_place (back_to e n)) order,
        (let x = carried (back_to e n) e (IsImage e n) (IsBelow n) (turned _ _ _ _ pairs) object (renamed_events e (events_of ls)) order
            (all_renamed e (back_to e n) (IsBelow n) (IsImage e n) pairs (events_of ls) all) (rw (events_are_renamed e ls) at l) in
            rw (renamed_back e (back_to e n) (IsBelow n) (IsImage e n) pairs (events_of ls) all) at x),
      )

  -- GOODNESS

  pub runs_are_covered : RunsAreCovered F
  runs_are_covered e P Q c memory ls m r = following.runs_are_covered e P Q c memory ls m r

  pub covered_runs_are_good : CoveredRunsAreGood F
  covered_runs_are_good P Q (e, c) memory object good ls m r =
      let (m', run, same) = runs_are_covered e P Q c memory ls m r in
      let (unfaulted, linear) = good (renamed e ls) m' run in (
        (λ i h. unfaulted (e i) (fault_to e ls i h)),
        (linearizations_are_renamed e P c.apart memory ls m r object).0 linear,
      )

  -- a number with no thread has no calls
  own_prologue : (P : Program F) (j : ℕ) → P.prologue ≡ Some j → Dec (j < length P.calls) → (calls_of P j ≡ []) ⊎ IsPrologueOf (λ i. i) P P j
  own_prologue P j is (yes lt) = inr (record { thread = j; named = is; within = lt; goes = refl; calls = refl })
  own_prologue P j is (no n) = inl (get_or_past P.calls j [] (omega (arith, n)))

  pub programs_cover_themselves : ProgramsCoverThemselves F
  programs_cover_themselves P = (
    (λ i. i),
    record {
      next = λ f. refl;
      start = λ k. refl;
      within = λ i lt. lt;
      apart = λ i j a b q. q;
      calls = λ i lt. ([], sym (append-nil _));
      prologue = λ j is. own_prologue P j is (dec_lt j (length P.calls));
    },
  )

  pub covers_is_transitive : CoversIsTransitive F
  covers_is_transitive P Q R (e, c) (f, d) = (
    (λ i. f (e i)),
    record {
      next = λ x. d.next x ∙ c.next x;
      start = λ k. d.start k ∙ c.start k;
      within = λ i lt. d.within (e i) (c.within i lt);
      apart = λ i j a b q. c.apart i j a b (d.apart (e i) (e j) (c.within i a) (c.within j b) q);
      calls = λ i lt.
          let (xs, is) = c.calls i lt in
          let (ys, are) = d.calls (e i) (c.within i lt) in
          (xs ++ ys, are ∙ (ap (λ r. r ++ ys) is ∙ append_assoc (calls_of P i) xs ys));
      prologue = λ k is. elim (d.prologue k is) [
        | inl none ↦ inl none
        | inr p ↦ elim (c.prologue p.thread p.named) [
          | inl none ↦ inl (p.calls ∙ none)
          | inr q ↦ inr (record { thread = q.thread; named = q.named; within = q.within; goes = ap f q.goes ∙ p.goes; calls = p.calls ∙ q.calls })
        ]
      ];
    },
  )
