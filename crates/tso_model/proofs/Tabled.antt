-- The table and the rules are one relation.
use Rattle.std.proofs.Common.{◌≡◌, ℕ, ◌⊎◌, refl, inl, inr}
use Rattle.tso_model.specs.LabelTable.{MayTake, TableIsRules}
use Rattle.tso_model.specs.Labels.{Call, Drain, Fault, Fence, HasLock, HasRead, Kind, Lock, Machine, Outside, Read, Reg, Return, Rule, Running, Thread, Unblocked, Unlock, Write, call, drain, fault, fence, lock, read, read_locked, reg, return, unlock, update, write, write_locked}
use Rattle.tso_model.specs.Programs.{Load, Locked, Program}
use Rattle.tso_model.specs.States.{word_seen}

module _ {F : Type 0} where
  to_table : (P : Program F) (m : Machine F) (i : ℕ) (t : Thread F) {k : Kind} {m' : Machine F} → Rule P m i t k m' → MayTake P m i t k m'
  to_table P m i t (call k idle found) = (idle, found, refl)
  to_table P m i t (reg f g running next) = (f, g, running, next, refl)
  to_table P m i t (read f p k running next free) = (refl, free, inl (f, k, running, next, refl))
  to_table P m i t (write f p v g running next) = inl (f, g, running, next, refl)
  to_table P m i t (drain p v rest entry free) = (rest, entry, free, refl)
  to_table P m i t (fence f g running next empty) = (f, g, running, next, empty, refl)
  to_table P m i t (lock f p n k running next free empty) = (f, p, n, k, running, next, free, empty, refl)
  to_table P m i t (read_locked f p n k running next free) = (refl, free, inr (f, n, k, running, next, refl))
  to_table P m i t (write_locked f p n k old running next) = inr (f, n, k, old, running, next, refl, refl)
  to_table P m i t (unlock f p n k old running next held empty) = (f, p, n, k, old, running, next, held, empty, refl)
  to_table P m i t (return f a running next) = (f, running, next, refl)
  to_table P m i t (fault f n running next) = (f, running, next, refl)

  from_read : (P : Program F) (m : Machine F) (i : ℕ) (t : Thread F) (p v : ℕ) (m' : Machine F) → v ≡ word_seen t.buffer m.memory p → Unblocked m i
      → ((f : F) × (k : ℕ → F) × (t.core ≡ Running f Outside) × (P.next f ≡ Load p k) × (m' ≡ update m i (record t { core = Running (k v) Outside })))
      ⊎ ((f : F) × (n : ℕ → ℕ) × (k : ℕ → F) × (t.core ≡ Running f HasLock) × (P.next f ≡ Locked p n k) × (m' ≡ update m i (record t { core = Running f (HasRead v) })))
      → Rule P m i t (Read p v) m'
  from_read P m i t p v m' e free (inl x) = rw (x.4, e) (read x.0 p x.1 x.2 x.3 free)
  from_read P m i t p v m' e free (inr x) = rw (x.5, e) (read_locked x.0 p x.1 x.2 x.3 x.4 free)

  from_table : (P : Program F) (m : Machine F) (i : ℕ) (t : Thread F) (k : Kind) (m' : Machine F) → MayTake P m i t k m' → Rule P m i t k m'
  from_table P m i t (Call k) m' x = rw x.2 (call k x.0 x.1)
  from_table P m i t Reg m' x = rw x.4 (reg x.0 x.1 x.2 x.3)
  from_table P m i t (Read p v) m' x = from_read P m i t p v m' x.0 x.1 x.2
  from_table P m i t (Write p v) m' (inl x) = rw x.4 (write x.0 p v x.1 x.2 x.3)
  from_table P m i t (Write p v) m' (inr x) = rw (x.7, x.6) (write_locked x.0 p x.1 x.2 x.3 x.4 x.5)
  from_table P m i t (Drain p v) m' x = rw x.3 (drain p v x.0 x.1 x.2)
  from_table P m i t Fence m' x = rw x.5 (fence x.0 x.1 x.2 x.3 x.4)
  from_table P m i t Lock m' x = rw x.8 (lock x.0 x.1 x.2 x.3 x.4 x.5 x.6 x.7)
  from_table P m i t Unlock m' x = rw x.9 (unlock x.0 x.1 x.2 x.3 x.4 x.5 x.6 x.7 x.8)
  from_table P m i t (Return a) m' x = rw x.3 (return x.0 a x.1 x.2)
  from_table P m i t (Fault n) m' x = rw x.3 (fault x.0 n x.1 x.2)

  pub table_is_rules : TableIsRules F
  table_is_rules P m i t k m' = (to_table P m i t, from_table P m i t k m')
