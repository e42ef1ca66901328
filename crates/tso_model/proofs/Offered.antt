-- A label is a step exactly where its actor offers it, with the machine that it leads to.
use Rattle.std.proofs.Common.{◌≡◌, ℕ, zero, suc, List, [], ◌∷◌, length, slice_get, refl, sym, ◌∙◌, ap, subst, arith, Option, Some, None, inl, inr}
use Rattle.std.proofs.lemmas.Option.{none-some, same_Some}
use Rattle.std.proofs.Math.Decide.{ℕ_discrete}
use Rattle.std.proofs.Common.{◌⊎◌, ◌<◌, eqb, eq-eqb, eqb-true}
use Rattle.std.proofs.lemmas.Option.{cond_some, slice_get_within}
use Rattle.tso_model.specs.Bounds.{Follows}
use Rattle.tso_model.specs.Labels.{Running, Idle, By, Call, Drain, Ended, Fault, Fence, Stopped, HasLock, HasRead, HasWritten, Kind, Lock, Core, Thread, Machine, Outside, Read, Reg, Return, Rule, Stage, Step, Unlock, Write, call, drain, fault, fence, lock, next_call_in, read, read_locked, reg, return, unlock, write, write_locked}
use Rattle.tso_model.specs.Offers.{Next, StepsAreOffers, actor_of, if_empty, if_free, if_held, if_unblocked, offer, offer_call, offer_core, offer_drain, offer_entry, offer_exec, offer_locked, offer_outside, offer_running, offer_within}
use Rattle.tso_model.specs.Programs.{Action, Barrier, CallKind, Cut, Fail, Load, Locked, Program, Ret, Silent, Store}
use Rattle.tso_model.specs.Steps.{Actor, Drains, Exec, thread_of}
use Rattle.tso_model.proofs.WellFormed.{free}

pub whose : (i : ℕ) (k : Kind) → thread_of (actor_of (By i k)) ≡ i
whose i (Drain p v) = refl
whose i (Call c) = refl
whose i Reg = refl
whose i (Read p v) = refl
whose i (Write p v) = refl
whose i Fence = refl
whose i Lock = refl
whose i Unlock = refl
whose i (Return a) = refl
whose i (Fault n) = refl

module _ {F : Type 0} where
  held_here : (held : Option ℕ) (i : ℕ) (x : Next F) → held ≡ Some i → if_held held i x ≡ Some x
  held_here held i x e = rw (e, eq-eqb i i refl) refl

  unblocked_here : (held : Option ℕ) (i : ℕ) (x : Next F) → (held ≡ None) ⊎ (held ≡ Some i) → if_unblocked held i x ≡ Some x
  unblocked_here held i x = elim [ inl e ↦ rw e refl | inr e ↦ rw (e, eq-eqb i i refl) refl ]

  pub offered : (P : Program F) (m : Machine F) (i : ℕ) (t : Thread F) → slice_get m.threads i ≡ Some t
      → {k : Kind} {m' : Machine F} → Rule P m i t k m' → offer P m (actor_of (By i k)) ≡ Some (record { kind = k; machine = m' })
  offered P m i t at (call k idle found) = rw (at, idle, found) refl
  offered P m i t at (reg f g running next) = rw (at, running, next) refl
  offered P m i t at (read f p k running next free) = rw (at, running, next) (unblocked_here m.lock i _ free)
  offered P m i t at (write f p v g running next) = rw (at, running, next) refl
  offered P m i t at (drain p v rest entry free) = rw (at, entry) (unblocked_here m.lock i _ free)
  offered P m i t at (fence f g running next empty) = rw (at, running, next, empty) refl
  offered P m i t at (lock f p w k running next free empty) = rw (at, running, next, free, empty) refl
  offered P m i t at (read_locked f p w k running next free) = rw (at, running, next) (unblocked_here m.lock i _ free)
  offered P m i t at (write_locked f p w k old running next) = rw (at, running, next) refl
  offered P m i t at (unlock f p w k old running next held empty) = rw (at, running, next, empty) (held_here m.lock i _ held)
  offered P m i t at (return f a running next) = rw (at, running, next) refl
  offered P m i t at (fault f n running next) = rw (at, running, next) refl

  unblocked_yes : (held : Option ℕ) (i : ℕ) (y x : Next F) → if_unblocked held i y ≡ Some x → ((held ≡ None) ⊎ (held ≡ Some i)) × (y ≡ x)
  unblocked_yes None i y x e = (inl refl, same_Some y x e)
  unblocked_yes (Some j) i y x e = let h = cond_some (eqb j i) y x e in (inr (ap Some (eqb-true j i h.0)), h.1)

  held_yes : (held : Option ℕ) (i : ℕ) (y x : Next F) → if_held held i y ≡ Some x → (held ≡ Some i) × (y ≡ x)
  held_yes None i y x e = absurd (none-some x e)
  held_yes (Some j) i y x e = let h = cond_some (eqb j i) y x e in (ap Some (eqb-true j i h.0), h.1)

  free_yes : (held : Option ℕ) (o : Option (Next F)) (x : Next F) → if_free held o ≡ Some x → (held ≡ None) × (o ≡ Some x)
  free_yes None o x e = (refl, e)
  free_yes (Some j) o x e = absurd (none-some x e)

  empty_yes : (b : List (ℕ × ℕ)) (o : Option (Next F)) (x : Next F) → if_empty b o ≡ Some x → (b ≡ []) × (o ≡ Some x)
  empty_yes [] o x e = (refl, e)
  empty_yes (z ∷ b) o x e = absurd (none-some x e)

  abbrev Ruled : Program F → Machine F → ℕ → Thread F → Next F → Type 0
  Ruled P m i t x = Rule P m i t x.kind x.machine

  is_it : (P : Program F) (m : Machine F) (i : ℕ) (t : Thread F) (y x : Next F) → y ≡ x → Ruled P m i t y → Ruled P m i t x
  is_it P m i t y x e r = subst (Ruled P m i t) e r

  outside_rule : (P : Program F) (m : Machine F) (i : ℕ) (t : Thread F) (f : F) (x : Next F) → t.core ≡ Running f Outside
      → (a : Action F) → P.next f ≡ a → offer_outside m i t f a ≡ Some x → Ruled P m i t x
  outside_rule P m i t f x go (Silent g) next e = is_it P m i t _ x (same_Some _ x e) (reg f g go next)
  outside_rule P m i t f x go (Load p k) next e = let h = unblocked_yes m.lock i _ x e in is_it P m i t _ x h.1 (read f p k go next h.0)
  outside_rule P m i t f x go (Store p v g) next e = is_it P m i t _ x (same_Some _ x e) (write f p v g go next)
  outside_rule P m i t f x go (Barrier g) next e = let h = empty_yes t.buffer _ x e in is_it P m i t _ x (same_Some _ x h.1) (fence f g go next h.0)
  outside_rule P m i t f x go (Locked p n k) next e =
      let h = free_yes m.lock _ x e in
      let l = empty_yes t.buffer _ x h.1 in
      is_it P m i t _ x (same_Some _ x l.1) (lock f p n k go next h.0 l.0)
  outside_rule P m i t f x go (Ret a) next e = is_it P m i t _ x (same_Some _ x e) (return f a go next)
  outside_rule P m i t f x go (Fail n) next e = is_it P m i t _ x (same_Some _ x e) (fault f n go next)
  outside_rule P m i t f x go Cut next e = absurd (none-some x e)

  locked_rule : (P : Program F) (m : Machine F) (i : ℕ) (t : Thread F) (f : F) (p : ℕ) (n : ℕ → ℕ) (k : ℕ → F) (x : Next F) → P.next f ≡ Locked p n k
      → (st : Stage) → t.core ≡ Running f st → offer_locked m i t f n p k st ≡ Some x → Ruled P m i t x
  locked_rule P m i t f p n k x next Outside is e = absurd (none-some x e)
  locked_rule P m i t f p n k x next HasLock is e = let h = unblocked_yes m.lock i _ x e in is_it P m i t _ x h.1 (read_locked f p n k is next h.0)
  locked_rule P m i t f p n k x next (HasRead old) is e = is_it P m i t _ x (same_Some _ x e) (write_locked f p n k old is next)
  locked_rule P m i t f p n k x next (HasWritten old) is e =
      let h = empty_yes t.buffer _ x e in
      let l = held_yes m.lock i _ x h.1 in
      is_it P m i t _ x l.1 (unlock f p n k old is next l.0 h.0)

  within_rule : (P : Program F) (m : Machine F) (i : ℕ) (t : Thread F) (f : F) (x : Next F) (st : Stage) → t.core ≡ Running f st
      → (a : Action F) → P.next f ≡ a → offer_within m i t f st a ≡ Some x → Ruled P m i t x
  within_rule P m i t f x st is (Locked p n k) next e = locked_rule P m i t f p n k x next st is e
  within_rule P m i t f x st is _ next e = absurd (none-some x e)

  running_rule : (P : Program F) (m : Machine F) (i : ℕ) (t : Thread F) (f : F) (x : Next F)
      → (st : Stage) → t.core ≡ Running f st → offer_running P m i t f st ≡ Some x → Ruled P m i t x
  running_rule P m i t f x Outside is e = outside_rule P m i t f x is (P.next f) refl e
  running_rule P m i t f x HasLock is e = within_rule P m i t f x HasLock is (P.next f) refl e
  running_rule P m i t f x (HasRead v) is e = within_rule P m i t f x (HasRead v) is (P.next f) refl e
  running_rule P m i t f x (HasWritten v) is e = within_rule P m i t f x (HasWritten v) is (P.next f) refl e

  call_rule : (P : Program F) (m : Machine F) (i : ℕ) (t : Thread F) (x : Next F) → t.core ≡ Idle
      → (o : Option CallKind) → next_call_in P m i t.begun ≡ o → offer_call P m i t o ≡ Some x → Ruled P m i t x
  call_rule P m i t x idle None found e = absurd (none-some x e)
  call_rule P m i t x idle (Some k) found e = is_it P m i t _ x (same_Some _ x e) (call k idle found)

  core_rule : (P : Program F) (m : Machine F) (i : ℕ) (t : Thread F) (x : Next F) → (o : Core F) → t.core ≡ o → offer_core P m i t o ≡ Some x → Ruled P m i t x
  core_rule P m i t x Idle is e = call_rule P m i t x is (next_call_in P m i t.begun) refl e
  core_rule P m i t x (Running f st) is e = running_rule P m i t f x st is e
  core_rule P m i t x Stopped is e = absurd (none-some x e)

  entry_rule : (P : Program F) (m : Machine F) (i : ℕ) (t : Thread F) (x : Next F) → (b : List (ℕ × ℕ)) → t.buffer ≡ b → offer_entry m i t b ≡ Some x → Ruled P m i t x
  entry_rule P m i t x [] is e = absurd (none-some x e)
  entry_rule P m i t x (z ∷ rest) is e = let h = unblocked_yes m.lock i _ x e in is_it P m i t _ x h.1 (drain z.0 z.1 rest is h.0)

  exec_step : (P : Program F) (m : Machine F) (i : ℕ) (x : Next F) → (o : Option (Thread F)) → slice_get m.threads i ≡ o → offer_exec P m i o ≡ Some x → Step P m (By i x.kind) x.machine
  exec_step P m i x None at e = absurd (none-some x e)
  exec_step P m i x (Some t) at e = (t, at, core_rule P m i t x t.core refl e)

  drain_step : (P : Program F) (m : Machine F) (i : ℕ) (x : Next F) → (o : Option (Thread F)) → slice_get m.threads i ≡ o → offer_drain m i o ≡ Some x → Step P m (By i x.kind) x.machine
  drain_step P m i x None at e = absurd (none-some x e)
  drain_step P m i x (Some t) at e = (t, at, entry_rule P m i t x t.buffer refl e)

  pub offered_step : (P : Program F) (m : Machine F) (a : Actor) (x : Next F) → offer P m a ≡ Some x → Step P m (By (thread_of a) x.kind) x.machine
  offered_step P m (Exec i) x e = exec_step P m i x (slice_get m.threads i) refl e
  offered_step P m (Drains i) x e = drain_step P m i x (slice_get m.threads i) refl e

  -- neither of the thread's actors has a label
  abbrev Quiet : Program F → Machine F → ℕ → Type 0
  Quiet P m i = (offer P m (Exec i) ≡ None) × (offer P m (Drains i) ≡ None)

  look : (P : Program F) (m : Machine F) (a : Actor) → (o : Option (Next F)) → offer P m a ≡ o → (offer P m a ≡ None) ⊎ Follows P m
  look P m a None e = inl e
  look P m a (Some x) e = inr (By (thread_of a) x.kind, x.machine, offered_step P m a x e)

  quiet_at : (P : Program F) (m : Machine F) (n i : ℕ) → ((j : ℕ) → j < n → Quiet P m j) → Quiet P m n → i < suc n → Dec (i ≡ n) → Quiet P m i
  quiet_at P m n i h q lt (yes e) = subst (Quiet P m) (sym e) q
  quiet_at P m n i h q lt (no ne) = h i (omega arith)

  both : (P : Program F) (m : Machine F) (n : ℕ) → ((j : ℕ) → j < n → Quiet P m j) → (offer P m (Exec n) ≡ None) ⊎ Follows P m → (offer P m (Drains n) ≡ None) ⊎ Follows P m
      → ((j : ℕ) → j < suc n → Quiet P m j) ⊎ Follows P m
  both P m n h (inr x) d = inr x
  both P m n h (inl e) (inr x) = inr x
  both P m n h (inl e) (inl d) = inl (λ i lt. quiet_at P m n i h (e, d) lt (ℕ_discrete i n))

  up : (P : Program F) (m : Machine F) (n : ℕ) → ((j : ℕ) → j < n → Quiet P m j) ⊎ Follows P m → ((j : ℕ) → j < suc n → Quiet P m j) ⊎ Follows P m
  up P m n (inr x) = inr x
  up P m n (inl h) = both P m n h (look P m (Exec n) (offer P m (Exec n)) refl) (look P m (Drains n) (offer P m (Drains n)) refl)

  search_below : (P : Program F) (m : Machine F) (n : ℕ) → ((j : ℕ) → j < n → Quiet P m j) ⊎ Follows P m
  search_below P m zero = inl (λ j lt. absurd (omega arith))
  search_below P m (suc n) = up P m n (search_below P m n)

  silent : (P : Program F) (m : Machine F) (i : ℕ) (k : Kind) → Quiet P m i → offer P m (actor_of (By i k)) ≡ None
  silent P m i (Drain p v) q = q.1
  silent P m i (Call c) q = q.0
  silent P m i Reg q = q.0
  silent P m i (Read p v) q = q.0
  silent P m i (Write p v) q = q.0
  silent P m i Fence q = q.0
  silent P m i Lock q = q.0
  silent P m i Unlock q = q.0
  silent P m i (Return a) q = q.0
  silent P m i (Fault n) q = q.0

  ended : (P : Program F) (m : Machine F) → ((j : ℕ) → j < length m.threads → Quiet P m j) → Ended P m
  ended P m h (By i k) m' x = none-some _ (sym (silent P m i k (h i (slice_get_within m.threads i x.0 x.1))) ∙ offered P m i x.0 x.1 x.2)

  decided : (P : Program F) (m : Machine F) → ((j : ℕ) → j < length m.threads → Quiet P m j) ⊎ Follows P m → Ended P m ⊎ Follows P m
  decided P m (inl h) = inl (ended P m h)
  decided P m (inr x) = inr x

  -- whether a label follows is decided by trying each thread
  pub decide : (P : Program F) (m : Machine F) → Ended P m ⊎ Follows P m
  decide P m = decided P m (search_below P m (length m.threads))

  pub steps_are_offers : StepsAreOffers F
  steps_are_offers P m i k m' =
      let back = λ (e : offer P m (actor_of (By i k)) ≡ Some (record { kind = k; machine = m' })).
      subst (λ (j : ℕ). Step P m (By j k) m') (whose i k) (offered_step P m (actor_of (By i k)) (record { kind = k; machine = m' }) e) in
      (λ x. offered P m i x.0 x.1 x.2, back)
