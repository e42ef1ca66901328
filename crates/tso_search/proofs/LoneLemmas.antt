-- What is chosen where a core's step may go first alone.
use Rattle.std.proofs.Common.{◌≡◌, ◌∙◌, ℕ, zero, suc, ◌*◌, ◌%◌, ◌^◌, ◌<◌, ◌==◌, inl, inr, true, false, List, [], ◌∷◌, Option, None, Some, slice_get, refl, sym, ap, subst, arith, ne_eqb}
use Rattle.std.specs.Int.{bit_at}
use Rattle.std.specs.Option.{option_and_then, option_map}
use Rattle.std.proofs.Math.Nat.{mod-eq_of_lt}
use Rattle.std.proofs.Math.Pow.{pow-lt}
use Rattle.std.proofs.lemmas.Bool.{cases_eq, eq-eqb}
use Rattle.std.proofs.lemmas.Nat.Bits.{bit_at-pow_same, bit_at-pow_other}
use Rattle.std.proofs.lemmas.Option.{same_Some}
use Rattle.tso_choose.proofs.ChoosingLemmas.{same_number}
use Rattle.tso_choose.specs.Choosing.{Alone, IsChoice, is_lone, is_lone_if}
use Rattle.tso_choose.specs.Closures.{has_bit}
use Rattle.tso_choose.specs.Sets.{IsOnly}
use Rattle.tso_compact.specs.Plans.{kind_of_move}
use Rattle.tso_compact.specs.declared.sort.StepKind.{StepKind}
use Rattle.tso_compact.specs.declared.sort.StepKind.TheVariants as kinds
use Rattle.tso_foot.specs.declared.table.Table.{Table}
use Rattle.tso_machine.specs.Activations.{Activation}
use Rattle.tso_model.specs.States.{Buffer, CompactCore, CompactThread}
use Rattle.tso_model.specs.Steps.{drain_move}
use Rattle.tso_prog.specs.declared.client.Client.{Client}
use Rattle.tso_state.specs.Actors.{number_of}
use Rattle.tso_state.specs.Views.{state_of}
use Rattle.tso_state.specs.declared.actor.Actor.{Actor}
use Rattle.tso_state.specs.declared.actor.Actor.TheVariants.{Exec, Drain}
use Rattle.tso_state.specs.declared.state.State.{State}
use Rattle.tso_store.specs.Lone.{IsFirstLoneCore, IsLoneAt, lone_of}
use Rattle.tso_store.specs.declared.lone.Lone.{Lone}

-- ---- the set of one core

power_below : (k : ℕ) → k < 16 → 1 * 2 ^ k % 65536 ≡ 2 ^ k
power_below k lt = let less : 2 ^ k < 65536 = pow-lt lt in ap (λ n. n % 65536) (omega arith) ∙ mod-eq_of_lt less

pub one_bit : (k j : ℕ) → has_bit (2 ^ k) j ≡ (j == k)
one_bit k j = elim (cases_eq j k) [
  | inl same ↦ ap (has_bit (2 ^ k)) same ∙ eq-eqb (bit_at (2 ^ k) k) 1 (bit_at-pow_same k) ∙ sym (eq-eqb j k same)
  | inr other ↦ ap (λ x. x == 1) (bit_at-pow_other k j other) ∙ sym (ne_eqb j k other)
]

pub one_core : (i : ℕ) → IsOnly (2 ^ (2 * i)) (Exec i)
one_core i b = one_bit (2 * i) (number_of b) ∙ same_number (Exec i) b

pub only_core : (i : ℕ) → i < 8 → IsOnly (1 * 2 ^ (2 * i) % 65536) (Exec i)
only_core i lt b = ap (λ n. has_bit n (number_of b)) (power_below (2 * i) (omega (arith, lt))) ∙ one_core i b

-- ---- steps that may go first alone

pub goes_alone : (o : Option StepKind) (kind : StepKind) → lone_of o ≡ Some kind → is_lone_if o ≡ true
goes_alone None kind e = absurd (let h : None ≡ Some kind = e in cc)
goes_alone (Some kinds.Local) kind e = refl
goes_alone (Some kinds.Return) kind e = refl
goes_alone (Some kinds.Call) kind e = absurd (let h : None ≡ Some kind = e in cc)
goes_alone (Some (kinds.Load place)) kind e = absurd (let h : None ≡ Some kind = e in cc)
goes_alone (Some (kinds.Drain place)) kind e = absurd (let h : None ≡ Some kind = e in cc)
goes_alone (Some (kinds.Locked place)) kind e = absurd (let h : None ≡ Some kind = e in cc)

waits : (o : Option StepKind) → lone_of o ≡ None → is_lone_if o ≡ false
waits None e = refl
waits (Some kinds.Local) e = absurd (let h : Some kinds.Local ≡ None = e in cc)
waits (Some kinds.Return) e = absurd (let h : Some kinds.Return ≡ None = e in cc)
waits (Some kinds.Call) e = refl
waits (Some (kinds.Load place)) e = refl
waits (Some (kinds.Drain place)) e = refl
waits (Some (kinds.Locked place)) e = refl

-- a drain does not
drain_of : (core : CompactCore Activation) (b : Buffer) → is_lone_if (option_map kind_of_move (drain_move core b)) ≡ false
drain_of core [] = refl
drain_of core (e ∷ rest) = refl

drain_waits : (o : Option (CompactThread Activation)) → is_lone_if (option_map kind_of_move (option_and_then (λ (t : CompactThread Activation). drain_move t.core t.buffer) o)) ≡ false
drain_waits None = refl
drain_waits (Some t) = drain_of t.core t.buffer

before_wait : (c : Client) (s : State) (l : Lone) → IsFirstLoneCore c s l → (b : Actor) → number_of b < 2 * l.thread → is_lone c s b ≡ false
before_wait c s l first (Exec j) lt = waits _ (first.first j (omega (arith, lt)))
before_wait c s l first (Drain j) lt = drain_waits (slice_get (state_of s).threads j)

pub core_chosen : (c : Client) (t : Table) (s : State) (l : Lone) (set : ℕ) → IsFirstLoneCore c s l → IsOnly set (Exec l.thread) → IsChoice c t s set
core_chosen c t s l set first only = Alone (Exec l.thread) (record { lone = goes_alone _ l.kind first.kind; first = before_wait c s l first }) only

pub lone_chosen : (d c : Client) (t : Table) (states : List State) (n : ℕ) (l : Lone) (set : ℕ) → d ≡ c → IsLoneAt d states n l → IsOnly set (Exec l.thread)
    → (s : State) → slice_get states n ≡ Some s → IsChoice c t s set
lone_chosen d c t states n l set same at only s here =
    subst (λ x. IsChoice x t s set) same (subst (λ x. IsChoice d t x set) (same_Some _ _ (sym at.at ∙ here)) (core_chosen d t at.state l set at.first only))

-- ---- all actors

-- the cores and buffers of five threads
pub all_are_there : (k : ℕ) → k < 10 → has_bit 1023 k ≡ true
all_are_there zero lt = refl
all_are_there (suc zero) lt = refl
all_are_there (suc (suc zero)) lt = refl
all_are_there (suc (suc (suc zero))) lt = refl
all_are_there (suc (suc (suc (suc zero)))) lt = refl
all_are_there (suc (suc (suc (suc (suc zero))))) lt = refl
all_are_there (suc (suc (suc (suc (suc (suc zero)))))) lt = refl
all_are_there (suc (suc (suc (suc (suc (suc (suc zero))))))) lt = refl
all_are_there (suc (suc (suc (suc (suc (suc (suc (suc zero)))))))) lt = refl
all_are_there (suc (suc (suc (suc (suc (suc (suc (suc (suc zero))))))))) lt = refl
all_are_there (suc (suc (suc (suc (suc (suc (suc (suc (suc (suc k)))))))))) lt = absurd (omega (arith, lt))
