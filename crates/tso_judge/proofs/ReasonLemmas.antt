-- The thread of which each reason of a list speaks.
use Rattle.std.proofs.Common.{◌≡◌, ◌≢◌, ◌∙◌, ℕ, zero, suc, ◌+◌, ◌<◌, ◌≤◌, List, length, Some, get_or, slice_get, refl, sym, ap, subst, arith, inl, inr}
use Rattle.std.specs.Prelude.{IsTrue}
use Rattle.std.proofs.lemmas.Bool.{cases_lt}
use Rattle.std.proofs.lemmas.Option.{same_Some, slice_get_within, slice_get-get_or}
use Rattle.tso_choose.specs.Choices.{AreReasons, position_of}
use Rattle.tso_foot.specs.declared.table.Table.{Table}
use Rattle.tso_indep.specs.Reasons.{holds}
use Rattle.tso_indep.specs.declared.reason.Reason.{Reason}
use Rattle.tso_prog.specs.declared.client.Client.{Client}
use Rattle.tso_state.specs.Actors.{thread_of}
use Rattle.tso_state.specs.declared.actor.Actor.{Actor}
use Rattle.tso_state.specs.declared.state.State.{State}

-- two other threads than i whose reasons stand at one position are one
one_thread : (i j k : ℕ) → j ≢ i → k ≢ i → position_of i j ≡ position_of i k → j ≡ k
one_thread zero zero k other apart e = absurd (other refl)
one_thread zero (suc j) zero other apart e = absurd (apart refl)
one_thread zero (suc j) (suc k) other apart e = ap suc e
one_thread (suc i) zero zero other apart e = refl
one_thread (suc i) zero (suc k) other apart e = absurd (omega (arith, e))
one_thread (suc i) (suc j) zero other apart e = absurd (omega (arith, e))
one_thread (suc i) (suc j) (suc k) other apart e = ap suc (one_thread i j k (λ s. other (ap suc s)) (λ s. apart (ap suc s)) (omega (arith, e)))

pub position_before : (i j : ℕ) → j < i → position_of i j ≡ j
position_before i zero lt = refl
position_before zero (suc j) lt = absurd (omega (arith, lt))
position_before (suc i) (suc j) lt = ap suc (position_before i j (omega (arith, lt)))

behind : (i j : ℕ) → i ≤ j → position_of i (suc j) ≡ j
behind zero j le = refl
behind (suc i) zero le = absurd (omega (arith, le))
behind (suc i) (suc j) le = ap suc (behind i j (omega (arith, le)))

pub position_behind : (i j : ℕ) → i ≤ j → position_of i (j + 1) ≡ j
position_behind i j le = let e : j + 1 ≡ suc j = omega arith in ap (position_of i) e ∙ behind i j le

-- the reasons before this position hold
pub record HoldBefore (c : Client) (t : Table) (s : State) (chosen : List Actor) (a : Actor) (given : List Reason) (n : ℕ) : Type 0 where
  pub each : (j : ℕ) (reason : Reason) → position_of (thread_of a) j < n → j ≢ thread_of a → slice_get given (position_of (thread_of a) j) ≡ Some reason → IsTrue (holds c t s chosen a j reason)

module _ (c : Client) (t : Table) (s : State) (chosen : List Actor) (a : Actor) (given : List Reason) where
  pub one_more : (n j : ℕ) (reason : Reason) → HoldBefore c t s chosen a given n → position_of (thread_of a) j ≡ n → j ≢ thread_of a → slice_get given n ≡ Some reason
      → IsTrue (holds c t s chosen a j reason) → HoldBefore c t s chosen a given (n + 1)
  one_more n j reason before place apart at holds_there = record { each = λ k other lt far there. by k other lt far there }
    where
      at_last : (k : ℕ) (other : Reason) → position_of (thread_of a) k ≡ n → k ≢ thread_of a → slice_get given (position_of (thread_of a) k) ≡ Some other → IsTrue (holds c t s chosen a k other)
      at_last k other e far there =
          let same : j ≡ k = one_thread (thread_of a) j k apart far (place ∙ sym e) in
          let alike : reason ≡ other = same_Some reason other (sym at ∙ ap (slice_get given) (sym e) ∙ there) in
          subst (λ x. IsTrue (holds c t s chosen a k x)) alike (subst (λ x. IsTrue (holds c t s chosen a x reason)) same holds_there)

      by : (k : ℕ) (other : Reason) → position_of (thread_of a) k < n + 1 → k ≢ thread_of a → slice_get given (position_of (thread_of a) k) ≡ Some other → IsTrue (holds c t s chosen a k other)
      by k other lt far there = elim (cases_lt (position_of (thread_of a) k) n) [
        | inl less ↦ before.each k other less far there
        | inr ge ↦ at_last k other (omega (arith, lt, ge)) far there
      ]

  -- the reason at a position, of a thread i whose position it is
  pub more_hold : (i n j : ℕ) (d : Reason) → i ≡ thread_of a → position_of i j ≡ n → j ≢ i → n < length given → HoldBefore c t s chosen a given n → IsTrue (holds c t s chosen a j (get_or given n d))
      → HoldBefore c t s chosen a given (n + 1)
  more_hold i n j d own place apart lt before last =
      one_more n j (get_or given n d) before (ap (λ k. position_of k j) (sym own) ∙ place) (λ e. apart (e ∙ sym own)) (slice_get-get_or given n d lt) last

  pub one_holds : (i n j : ℕ) (d : Reason) → i ≡ thread_of a → position_of i j ≡ n → j ≢ i → j ≤ n + 1 → n < length given → AreReasons c t s chosen a given → IsTrue (holds c t s chosen a j (get_or given n d))
  one_holds i n j d own place apart near lt are =
      let count = are.count in
      are.each j (get_or given n d) (omega (arith, near, lt, count)) (λ e. apart (e ∙ sym own)) (ap (slice_get given) (ap (λ k. position_of k j) (sym own) ∙ place) ∙ slice_get-get_or given n d lt)

  -- all of them do
  pub all_hold : (n : ℕ) → length given + 1 ≡ length s.threads → length given ≤ n → HoldBefore c t s chosen a given n → AreReasons c t s chosen a given
  all_hold n count le before = record {
    count = count;
    each = λ j reason lt apart there. let within = slice_get_within given (position_of (thread_of a) j) reason there in before.each j reason (omega (arith, within, le)) apart there;
  }
