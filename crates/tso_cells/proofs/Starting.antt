-- What calls begin with lies in intervals that have it.
use Rattle.std.proofs.Common.{◌≡◌, ℕ, zero, suc, true, List, [], ◌∷◌, length, Some, slice_get, refl, arith}
use Rattle.std.specs.Prelude.{replicate, slice_set}
use Rattle.std.proofs.lemmas.Bool.{and_from}
use Rattle.tso_flow.specs.Accesses.{register_number}
use Rattle.tso_cells.specs.Intervals.{has, lie_in}
use Rattle.tso_cells.specs.IntervalLaws.{AreFirst, argument_of}
use Rattle.tso_cells.specs.declared.interval.Interval.{Interval}
use Rattle.tso_line.specs.declared.instruction.Register.TheVariants.{Rdi}
use Rattle.tso_machine.specs.Programs.{start_of}
use Rattle.tso_model.specs.Programs.{CallKind, Pop, Push}
use Rattle.tso_prog.specs.declared.client.Client.{Client}

zeros_lie : (xs : List Interval) (n : ℕ) → length xs ≡ n → ((k : ℕ) (i : Interval) → slice_get xs k ≡ Some i → has i 0 ≡ true) → lie_in xs (replicate n 0) ≡ true
zeros_lie [] zero e h = refl
zeros_lie [] (suc n) e h = absurd (omega (arith, e))
zeros_lie (x ∷ xs) zero e h = absurd (omega (arith, e))
zeros_lie (x ∷ xs) (suc n) e h = and_from (has x 0) (lie_in xs (replicate n 0)) (h zero x refl) (zeros_lie xs n (omega (arith, e)) (λ k. h (suc k)))

-- all 0 but the word at one place
pub one_lies : (xs : List Interval) (n m w : ℕ) → length xs ≡ n → ((i : Interval) → slice_get xs m ≡ Some i → has i w ≡ true)
    → ((k : ℕ) (i : Interval) → slice_get xs k ≡ Some i → (k ≡ m → ⊥) → has i 0 ≡ true) → lie_in xs (slice_set (replicate n 0) m w) ≡ true
one_lies [] zero m w e at others = refl
one_lies [] (suc n) m w e at others = absurd (omega (arith, e))
one_lies (x ∷ xs) zero m w e at others = absurd (omega (arith, e))
one_lies (x ∷ xs) (suc n) zero w e at others =
    and_from (has x w) (lie_in xs (replicate n 0)) (at x refl) (zeros_lie xs n (omega (arith, e)) (λ k i g. others (suc k) i g (λ c. omega (arith, c))))
one_lies (x ∷ xs) (suc n) (suc m) w e at others =
    and_from (has x 0) (lie_in xs (slice_set (replicate n 0) m w)) (others zero x refl (λ c. omega (arith, c)))
    (one_lies xs n m w (omega (arith, e)) at (λ k i g ne. others (suc k) i g (λ c. ne (omega (arith, c)))))

pub first_lie : (c : Client) (kind : CallKind) (xs : List Interval) → AreFirst xs (argument_of kind) → lie_in xs (start_of c kind).frame.registers ≡ true
first_lie c (Push v) xs h = one_lies xs 15 (register_number Rdi) v h.count h.argument h.zeros
first_lie c Pop xs h = one_lies xs 15 (register_number Rdi) 0 h.count h.argument h.zeros
