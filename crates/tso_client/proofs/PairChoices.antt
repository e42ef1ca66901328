-- The choices at the kept states of the pair, each with its reason for the other thread.
use Rattle.std.proofs.Common.{◌≡◌, ℕ, zero, suc, ◌+◌, ◌<◌, ◌==◌, Bool, true, false, List, [], ◌∷◌, length, Some, None, ◌⊎◌, inl, inr, refl, sym, ◌∙◌, subst, arith}
use Rattle.std.proofs.lemmas.Option.{none-some, same_Some}
use Rattle.std.specs.Prelude.{slice_get}
use Rattle.tso_model.specs.Programs.{Done, Pop, Push, Refused, calls_of}
use Rattle.tso_model.specs.Reasons.{Buffered, Far, Holds, Inside, IsDone, NoReturn, Own, Reason, Returns, Valid}
use Rattle.tso_model.specs.Reduce.{Has}
use Rattle.tso_model.specs.States.{CompactThread, Same, State, begun_by}
use Rattle.tso_model.specs.Steps.{Actor, Drains, Exec, Move, Read, move, step, thread_of}
use Rattle.tso_model.specs.Table.{IsTableClosed, Table, future_writes, table_future}
use Rattle.tso_model.specs.WellFormed.{IsWellFormed}
use Rattle.tso_model.proofs.Theorems.{first_is_well_formed, steps_stay_well_formed}
use Rattle.tso_client.specs.Small.{AfterLoad, AfterStore, Frame, Loads, Stores, pair}
use Rattle.tso_client.proofs.Frames.{rank, ranked, sound}
use Rattle.tso_client.proofs.OneOf.{Each, is_one}
use Rattle.tso_client.proofs.PairStates.{a0, a1, a2, a3, a4, a5, a6, a7, b1, b2, b3, b4, b5, b6, b7, states}

-- a push stores to place 0, a pop reads place 1
abbrev pub reads : Frame → ℕ → Bool
reads Loads place = 1 == place
reads _ place = false

abbrev pub writes : Frame → ℕ → Bool
writes Stores place = 0 == place
writes _ place = false

abbrev pub masks : Table Frame
masks = record { reads = reads; writes = writes }

pub masks_closed : IsTableClosed pair sound masks
masks_closed Stores s = (refl, record { reads = λ q h. cc; writes = λ q h. cc })
masks_closed AfterStore s = tt
masks_closed Loads s = (refl, λ w. record { reads = λ q h. cc; writes = λ q h. cc })
masks_closed AfterLoad s = tt

abbrev pub kept : State Frame → Bool
kept s = is_one states s

-- the actor is chosen, with a reason for the other thread, and its step leads to a kept state
pub record IsChosen (s : State Frame) (chosen : List Actor) (a : Actor) : Type 0 where
  pub after : State Frame
  pub goes : step pair s a ≡ Some after
  pub is_kept : kept after ≡ true
  pub action : Move Frame
  pub is : move pair s a ≡ Some action
  pub other : ℕ
  pub two : thread_of a + other ≡ 1
  pub reason : Reason
  pub holds : Holds pair (table_future pair masks) s chosen action.access action.log other reason

other_is : (j t o : ℕ) → j < 2 → (j ≡ t → ⊥) → t + o ≡ 1 → o ≡ j
other_is j t o lt n sum = omega (arith, lt, n, sum)

inside_of : (s : State Frame) (chosen : List Actor) (j : ℕ) → Has chosen (Exec j) ⊎ (move pair s (Exec j) ≡ None) → move pair s (Drains j) ≡ None
    → (b : Actor) → thread_of b ≡ j → Has chosen b ⊎ (move pair s b ≡ None)
inside_of s chosen j x d (Exec k) e = subst (λ n. Has chosen (Exec n) ⊎ (move pair s (Exec n) ≡ None)) (sym e) x
inside_of s chosen j x d (Drains k) e = inr (subst (λ n. move pair s (Drains n) ≡ None) (sym e) d)

-- the calls at first: both are chosen, so the other's core is, and all that the other can do
abbrev both : List Actor
both = Exec 0 ∷ Exec 1 ∷ []

at_a0 : IsChosen a0 both (Exec 0)
at_a0 = record { after = a1; goes = refl; is_kept = refl; action = _; is = refl; other = 1; two = refl; reason = Buffered; holds = (inr (inl refl), λ t place at in_it. ((λ r. r), (λ w. w))) }

at_a0' : IsChosen a0 both (Exec 1)
at_a0' = record { after = b1; goes = refl; is_kept = refl; action = _; is = refl; other = 0; two = refl; reason = Inside; holds = inside_of a0 both 0 (inl (inl refl)) refl }

-- a store is its thread's own, whatever the other could do
at_a1 : IsChosen a1 (Exec 0 ∷ []) (Exec 0)
at_a1 = record { after = a2; goes = refl; is_kept = refl; action = _; is = refl; other = 1; two = refl; reason = Own; holds = (refl, refl) }

-- it returns with the store in its buffer
at_a2 : IsChosen a2 (Exec 0 ∷ []) (Exec 0)
at_a2 = record { after = a3; goes = refl; is_kept = refl; action = _; is = refl; other = 1; two = refl; reason = Returns; holds = (refl, (Done, refl)) }

done_of : (s : State Frame) (j : ℕ) (u : CompactThread Frame) → slice_get s.threads j ≡ Some u → IsDone pair (calls_of pair j) (begun_by s j) u.core
    → (t : CompactThread Frame) → slice_get s.threads j ≡ Some t → IsDone pair (calls_of pair j) (begun_by s j) t.core
done_of s j u here done t at = subst (λ (v : CompactThread Frame). IsDone pair (calls_of pair j) (begun_by s j) v.core) (same_Some u t (sym here ∙ at)) done

-- a read of place 1 is far from a thread that no longer writes there
far_of : (s : State Frame) (chosen : List Actor) → future_writes pair masks s 0 1 ≡ false → Holds pair (table_future pair masks) s chosen (Read 1) Same 0 Far
far_of s chosen never =
    (refl, (λ place e w. let w' : future_writes pair masks s 0 1 ≡ true = subst (λ n. future_writes pair masks s 0 n ≡ true) (sym e) w in cc), (λ place h r. absurd h), (λ place h r. absurd h))

-- the other thread returns no more, so the pop is called, before the drain
at_a3 : IsChosen a3 (Exec 1 ∷ []) (Exec 1)
at_a3 = record { after = a4; goes = refl; is_kept = refl; action = _; is = refl; other = 0; two = refl; reason = NoReturn; holds = (refl, (Pop, refl), done_of a3 0 _ refl refl) }

-- the pop's load is far from what the other thread may still write
at_a4 : IsChosen a4 (Exec 1 ∷ []) (Exec 1)
at_a4 = record { after = a5; goes = refl; is_kept = refl; action = _; is = refl; other = 0; two = refl; reason = Far; holds = far_of a4 (Exec 1 ∷ []) refl }

at_a5 : IsChosen a5 (Exec 1 ∷ []) (Exec 1)
at_a5 = record { after = a6; goes = refl; is_kept = refl; action = _; is = refl; other = 0; two = refl; reason = Returns; holds = (refl, (Refused, refl)) }

-- the other thread can do nothing
at_a6 : IsChosen a6 (Drains 0 ∷ []) (Drains 0)
at_a6 = record { after = a7; goes = refl; is_kept = refl; action = _; is = refl; other = 1; two = refl; reason = Inside; holds = inside_of a6 (Drains 0 ∷ []) 1 (inr refl) refl }

at_b1 : IsChosen b1 (Exec 1 ∷ []) (Exec 1)
at_b1 = record { after = b2; goes = refl; is_kept = refl; action = _; is = refl; other = 0; two = refl; reason = Far; holds = far_of b1 (Exec 1 ∷ []) refl }

at_b2 : IsChosen b2 (Exec 1 ∷ []) (Exec 1)
at_b2 = record { after = b3; goes = refl; is_kept = refl; action = _; is = refl; other = 0; two = refl; reason = Returns; holds = (refl, (Refused, refl)) }

at_b3 : IsChosen b3 (Exec 0 ∷ []) (Exec 0)
at_b3 = record { after = b4; goes = refl; is_kept = refl; action = _; is = refl; other = 1; two = refl; reason = NoReturn; holds = (refl, (Push 7, refl), done_of b3 1 _ refl refl) }

at_b4 : IsChosen b4 (Exec 0 ∷ []) (Exec 0)
at_b4 = record { after = b5; goes = refl; is_kept = refl; action = _; is = refl; other = 1; two = refl; reason = Own; holds = (refl, refl) }

at_b5 : IsChosen b5 (Exec 0 ∷ []) (Exec 0)
at_b5 = record { after = b6; goes = refl; is_kept = refl; action = _; is = refl; other = 1; two = refl; reason = Returns; holds = (refl, (Done, refl)) }

at_b6 : IsChosen b6 (Drains 0 ∷ []) (Drains 0)
at_b6 = record { after = b7; goes = refl; is_kept = refl; action = _; is = refl; other = 1; two = refl; reason = Inside; holds = inside_of b6 (Drains 0 ∷ []) 1 (inr refl) refl }

-- VALID CHOICES

abbrev pub Choices : State Frame → Type 0
Choices s = (s' : State Frame) (a : Actor) → step pair s a ≡ Some s' →
    (c : Actor) × (rest : List Actor) × ((b : Actor) → Has (c ∷ rest) b → Valid pair (table_future pair masks) s (c ∷ rest) b) ×
    ((b : Actor) (s'' : State Frame) → Has (c ∷ rest) b → step pair s b ≡ Some s'' → kept s'' ≡ true)

valid_of : (s : State Frame) (chosen : List Actor) (a : Actor) → length s.threads ≡ 2 → IsChosen s chosen a → Valid pair (table_future pair masks) s chosen a
valid_of s chosen a width x =
    let other : (j : ℕ) → j < length s.threads → (j ≡ thread_of a → ⊥) → x.other ≡ j = λ j lt n. (other_is j (thread_of a) x.other (rw width at lt) n x.two) in
    (x.action, x.is, λ j lt n. (x.reason, subst (λ i. Holds pair (table_future pair masks) s chosen x.action.access x.action.log i x.reason) (other j lt n) x.holds))

kept_of : (s s'' : State Frame) (chosen : List Actor) (a : Actor) → IsChosen s chosen a → step pair s a ≡ Some s'' → kept s'' ≡ true
kept_of s s'' chosen a x e = subst (λ r. kept r ≡ true) (same_Some x.after s'' (sym x.goes ∙ e)) x.is_kept

choices_of : (s : State Frame) (c : Actor) (rest : List Actor) → length s.threads ≡ 2 → ((b : Actor) → Has (c ∷ rest) b → IsChosen s (c ∷ rest) b) → Choices s
choices_of s c rest width xs = λ s' a e. (c, rest, (λ b h. valid_of s (c ∷ rest) b width (xs b h)), (λ b s'' h eb. kept_of s s'' (c ∷ rest) b (xs b h) eb))

single : (s : State Frame) (c : Actor) → IsChosen s (c ∷ []) c → (b : Actor) → Has (c ∷ []) b → IsChosen s (c ∷ []) b
single s c x b (inl e) = subst (IsChosen s (c ∷ [])) e x
single s c x b (inr none) = absurd none

double : (s : State Frame) (c d : Actor) → IsChosen s (c ∷ d ∷ []) c → IsChosen s (c ∷ d ∷ []) d → (b : Actor) → Has (c ∷ d ∷ []) b → IsChosen s (c ∷ d ∷ []) b
double s c d x y b (inl e) = subst (IsChosen s (c ∷ d ∷ [])) e x
double s c d x y b (inr (inl e)) = subst (IsChosen s (c ∷ d ∷ [])) e y
double s c d x y b (inr (inr none)) = absurd none

-- AT AN END

none_at : (s : State Frame) → ((a : Actor) → step pair s a ≡ None) → Choices s
none_at s over s' a e = absurd (none-some s' (sym (over a) ∙ e))

pub over_a7 : (a : Actor) → step pair a7 a ≡ None
over_a7 (Exec zero) = refl
over_a7 (Exec (suc zero)) = refl
over_a7 (Exec (suc (suc i))) = refl
over_a7 (Drains zero) = refl
over_a7 (Drains (suc zero)) = refl
over_a7 (Drains (suc (suc i))) = refl

pub over_b7 : (a : Actor) → step pair b7 a ≡ None
over_b7 (Exec zero) = refl
over_b7 (Exec (suc zero)) = refl
over_b7 (Exec (suc (suc i))) = refl
over_b7 (Drains zero) = refl
over_b7 (Drains (suc zero)) = refl
over_b7 (Drains (suc (suc i))) = refl

one : (s : State Frame) (c : Actor) → length s.threads ≡ 2 → IsChosen s (c ∷ []) c → Choices s
one s c width x = choices_of s c [] width (single s c x)

pub all_choices : Each Choices states
all_choices = (
  choices_of a0 (Exec 0) (Exec 1 ∷ []) refl (double a0 (Exec 0) (Exec 1) at_a0 at_a0'),
  (
    one a1 (Exec 0) refl at_a1,
    (
      one a2 (Exec 0) refl at_a2,
      (
        one a3 (Exec 1) refl at_a3,
        (
          one a4 (Exec 1) refl at_a4,
          (
            one a5 (Exec 1) refl at_a5,
            (
              one a6 (Drains 0) refl at_a6,
              (
                none_at a7 over_a7,
                (one b1 (Exec 1) refl at_b1, (one b2 (Exec 1) refl at_b2, (one b3 (Exec 0) refl at_b3, (one b4 (Exec 0) refl at_b4, (one b5 (Exec 0) refl at_b5, (one b6 (Drains 0) refl at_b6, (none_at b7 over_b7, tt))))))),
              ),
            ),
          ),
        ),
      ),
    ),
  ),
)

-- WELL-FORMED, ONE AFTER ANOTHER

abbrev pub W : State Frame → Type 0
W = IsWellFormed pair 2 sound

next_well : (s : State Frame) (chosen : List Actor) (a : Actor) → (x : IsChosen s chosen a) → W s → W x.after
next_well s chosen a x w = steps_stay_well_formed Frame pair 2 sound rank (ranked 1 _ _ 2 (omega arith)) s x.after a w x.goes

pub all_well : Each W states
unfolding at_a0 at_a1 at_a2 at_a3 at_a4 at_a5 at_a6 at_a0' at_b1 at_b2 at_b3 at_b4 at_b5 at_b6
all_well =
    let w0 : W a0 = first_is_well_formed Frame pair sound (0 ∷ 0 ∷ []) in
    let w1 = next_well a0 _ _ at_a0 w0 in
    let w2 = next_well a1 _ _ at_a1 w1 in
    let w3 = next_well a2 _ _ at_a2 w2 in
    let w4 = next_well a3 _ _ at_a3 w3 in
    let w5 = next_well a4 _ _ at_a4 w4 in
    let w6 = next_well a5 _ _ at_a5 w5 in
    let w7 = next_well a6 _ _ at_a6 w6 in
    let v1 = next_well a0 _ _ at_a0' w0 in
    let v2 = next_well b1 _ _ at_b1 v1 in
    let v3 = next_well b2 _ _ at_b2 v2 in
    let v4 = next_well b3 _ _ at_b3 v3 in
    let v5 = next_well b4 _ _ at_b4 v4 in
    let v6 = next_well b5 _ _ at_b5 v5 in
    let v7 = next_well b6 _ _ at_b6 v6 in
    (w0, (w1, (w2, (w3, (w4, (w5, (w6, (w7, (v1, (v2, (v3, (v4, (v5, (v6, (v7, tt)))))))))))))))
