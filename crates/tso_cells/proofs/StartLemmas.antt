-- The arguments that a client pushes, and what calls begin with.
use Rattle.std.proofs.Common.{◌≡◌, ℕ, zero, suc, ◌+◌, ◌^◌, ◌%◌, ◌≤◌, ◌<◌, ◌⊎◌, inl, inr, true, nat_le, List, [], ◌∷◌, ◌++◌, length, get_or, Some, slice_get, refl, sym, subst, arith}
use Rattle.std.specs.Prelude.{replicate}
use Rattle.std.proofs.lemmas.Bool.{and_from, and_parts, cases_lt, le-leb, leb-true}
use Rattle.std.proofs.lemmas.Option.{get_or_from_slice_get, none-some, same_Some, slice_get-get_or, slice_get_within}
use Rattle.tso_flow.specs.Accesses.{register_number}
use Rattle.tso_flow.specs.Calls.{as_thread, calls_of_client}
use Rattle.tso_cells.specs.Intervals.{IsInside, alone, has}
use Rattle.tso_cells.specs.IntervalLaws.{AreFirst}
use Rattle.tso_cells.specs.declared.interval.Interval.{Interval}
use Rattle.tso_line.specs.declared.instruction.CallKind.{CallKind}
use Rattle.tso_line.specs.declared.instruction.CallKind.TheVariants.{Push}
use Rattle.tso_line.specs.declared.instruction.Register.TheVariants.{Rdi}
use Rattle.tso_prog.specs.declared.client.Client.{Client}
use Rattle.tso_cells.proofs.ListLemmas.{set_cases}
use Rattle.tso_cells.specs.Rows.{IsRowInside}
use Rattle.tso_cells.specs.Starts.{HasArguments, entry_row}

pub wider : (i j : Interval) (w : ℕ) → IsInside i j → has i w ≡ true → has j w ≡ true
wider i j w inside h =
    let parts = and_parts (nat_le i.lo (w % 2 ^ 64)) (nat_le (w % 2 ^ 64) i.hi) h in
    let low = leb-true i.lo (w % 2 ^ 64) parts.0 in
    let high = leb-true (w % 2 ^ 64) i.hi parts.1 in
    let from = inside.0 in
    let to = inside.1 in
    and_from (nat_le j.lo (w % 2 ^ 64)) (nat_le (w % 2 ^ 64) j.hi) (le-leb j.lo (w % 2 ^ 64) (omega (arith, low, from))) (le-leb (w % 2 ^ 64) j.hi (omega (arith, high, to)))

-- the arguments of the first calls
abbrev pub HasFirst : Interval → List CallKind → ℕ → Type 0
HasFirst i calls upto = (n v : ℕ) → n < upto → slice_get calls n ≡ Some (Push v) → has i v ≡ true

pub one_more : (i j : Interval) (calls : List CallKind) (n : ℕ) (d : CallKind) → IsInside i j → HasFirst i calls n → ((v : ℕ) → get_or calls n d ≡ Push v → has j v ≡ true) → HasFirst j calls (n + 1)
one_more i j calls n d inside known new m v lt at = elim (cases_lt m n) [
  | inl less ↦ wider i j v inside (known m v less at)
  | inr ge ↦ let same : m ≡ n = omega (arith, lt, ge) in new v (get_or_from_slice_get calls n (Push v) d (subst (λ k. slice_get calls k ≡ Some (Push v)) same at))
]

pub all_first : (i : Interval) (calls : List CallKind) (n : ℕ) → length calls ≤ n → HasFirst i calls n → HasArguments i calls
all_first i calls n le known m v at = let lt = slice_get_within calls m (Push v) at in known m v (omega (arith, lt, le)) at

pub wider_arguments : (i j : Interval) (calls : List CallKind) → IsInside i j → HasArguments i calls → HasArguments j calls
wider_arguments i j calls inside known m v at = wider i j v inside (known m v at)

-- the arguments of the first lists of calls
abbrev pub HasThreads : Interval → List (List CallKind) → ℕ → Type 0
HasThreads i threads upto = (n : ℕ) (calls : List CallKind) → n < upto → slice_get threads n ≡ Some calls → HasArguments i calls

pub thread_more : (i j : Interval) (threads : List (List CallKind)) (n : ℕ) (d : List CallKind) → IsInside i j → HasThreads i threads n → HasArguments j (get_or threads n d) → HasThreads j threads (n + 1)
thread_more i j threads n d inside known new m calls lt at = elim (cases_lt m n) [
  | inl less ↦ wider_arguments i j calls inside (known m calls less at)
  | inr ge ↦
      let same : m ≡ n = omega (arith, lt, ge) in
      let is : get_or threads n d ≡ calls = get_or_from_slice_get threads n calls d (subst (λ k. slice_get threads k ≡ Some calls) same at) in
      subst (λ (x : List CallKind). HasArguments j x) is new
]

pub all_threads : (i : Interval) (threads : List (List CallKind)) (n : ℕ) → length threads ≤ n → HasThreads i threads n → (m : ℕ) (calls : List CallKind) → slice_get threads m ≡ Some calls → HasArguments i calls
all_threads i threads n le known m calls at = let lt = slice_get_within threads m calls at in known m calls (omega (arith, lt, le)) at

-- a list of the client's calls is a thread's, or the prologue's
pub client_cases : (threads : List (List CallKind)) (prologue : List CallKind) (i : ℕ) (calls : List CallKind) → slice_get (threads ++ as_thread prologue) i ≡ Some calls → (slice_get threads i ≡ Some calls) ⊎ (prologue ≡ calls)
client_cases [] [] i calls at = absurd (none-some calls at)
client_cases [] (x ∷ xs) zero calls at = inr (same_Some (x ∷ xs) calls at)
client_cases [] (x ∷ xs) (suc i) calls at = absurd (none-some calls at)
client_cases (t ∷ threads) prologue zero calls at = inl at
client_cases (t ∷ threads) prologue (suc i) calls at = client_cases threads prologue i calls at

pub client_arguments : (c : Client) (some all : Interval) → IsInside some all → ((m : ℕ) (calls : List CallKind) → slice_get c.threads m ≡ Some calls → HasArguments some calls) → HasArguments all c.prologue
    → (i : ℕ) (calls : List CallKind) → slice_get (calls_of_client c) i ≡ Some calls → HasArguments all calls
client_arguments c some all inside threads prologue i calls at = elim (client_cases c.threads c.prologue i calls at) [
  | inl one ↦ wider_arguments some all calls inside (threads i calls one)
  | inr other ↦ subst (λ (x : List CallKind). HasArguments all x) other prologue
]

-- ---- rows that hold what calls begin with

replicated : (n k : ℕ) (i x : Interval) → slice_get (replicate n i) k ≡ Some x → x ≡ i
replicated zero k i x at = absurd (none-some x at)
replicated (suc n) zero i x at = sym (same_Some i x at)
replicated (suc n) (suc k) i x at = replicated n k i x at

entry_at : (argument : Interval) (n : ℕ) (x : Interval) → slice_get (entry_row argument) n ≡ Some x → ((n ≡ register_number Rdi) × (x ≡ argument)) ⊎ ((n ≡ register_number Rdi → ⊥) × (x ≡ alone 0))
entry_at argument n x at = elim (set_cases (replicate 15 (alone 0)) (register_number Rdi) n argument x at) [
  | inl same ↦ inl (same.0, same.1)
  | inr was ↦ inr (was.0, replicated 15 n (alone 0) x was.1)
]

-- what holds the entry has 0 in all registers but RDI
pub zeros_in : (argument : Interval) (xs : List Interval) → IsRowInside (entry_row argument) xs → (n : ℕ) (i : Interval) → slice_get xs n ≡ Some i → (n ≡ register_number Rdi → ⊥) → has i 0 ≡ true
zeros_in argument xs inside n i at other =
    let lt = slice_get_within xs n i at in
    let size : length xs ≡ 15 = inside.0 in
    let x = get_or (entry_row argument) n (alone 0) in
    let there : slice_get (entry_row argument) n ≡ Some x = slice_get-get_or (entry_row argument) n (alone 0) (omega (arith, lt, size)) in
    let holds : IsInside x i = inside.1 n x i there at in
    elim (entry_at argument n x there) [
      | inl same ↦ absurd (other same.0)
      | inr was ↦ wider (alone 0) i 0 (subst (λ (y : Interval). IsInside y i) was.1 holds) refl
    ]

pub argument_in : (argument : Interval) (xs : List Interval) (v : ℕ) → IsRowInside (entry_row argument) xs → has argument v ≡ true → (i : Interval) → slice_get xs (register_number Rdi) ≡ Some i → has i v ≡ true
argument_in argument xs v inside h i at = wider argument i v (inside.1 (register_number Rdi) argument i refl at) h

pub first_of_entry : (argument : Interval) (xs : List Interval) (v : ℕ) → IsRowInside (entry_row argument) xs → has argument v ≡ true → AreFirst xs v
first_of_entry argument xs v inside h = record { count = inside.0; argument = argument_in argument xs v inside h; zeros = zeros_in argument xs inside }
