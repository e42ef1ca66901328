-- Keys and states that come from another store.
use Rattle.std.proofs.Common.{◌≡◌, ◌∙◌, ℕ, zero, suc, ◌<◌, ◌^◌, List, [], ◌∷◌, length, map, Some, None, refl, ap, arith, slice_get, subst}
use Rattle.std.proofs.lemmas.List.{get_or_past}
use Rattle.std.proofs.lemmas.Option.{same_Some}
use Rattle.tso_parts.specs.Numbers as parts
use Rattle.tso_prog.specs.declared.client.Client.{Client}
use Rattle.tso_state.specs.declared.state.State.{State}
use Rattle.tso_keys.specs.Keys.{AreKept, Grows, IsKeyOf}
use Rattle.tso_keys.specs.Moving.{ArePartNumbersIn, moved_number, moved_at, moved_key}
use Rattle.tso_keys.specs.Numbers.{AreNumbersOf}
use Rattle.tso_keys.specs.declared.key.Key.{Key}
use Rattle.tso_keys.specs.declared.moved.PartNumbers.{PartNumbers}
use Rattle.tso_keys.specs.declared.parts.Parts.{Parts}

-- numbers in their order are a row
pub row_of_all : {X : Type 0} (pool : List X) (ns : List ℕ) (xs : List X) → parts.AreNumbersIn pool ns xs → AreNumbersOf pool ns xs
row_of_all pool [] [] are = tt
row_of_all pool [] (x ∷ xs) are = absurd (let w = are.wide in omega (arith, w))
row_of_all pool (n ∷ ns) [] are = absurd (let w = are.wide in omega (arith, w))
row_of_all {X = X} pool (n ∷ ns) (x ∷ xs) are =
    let first = are.each 0 x refl in
    (ap (slice_get pool) (same_Some n first.0 first.1) ∙ first.2, row_of_all {X = X} pool ns xs (record { wide = let w = are.wide in omega (arith, w); each = λ i y e. are.each (suc i) y e }))

moved_one : {X : Type 0} (pool : List X) (ns : List ℕ) (xs : List X) (n : ℕ) (x : X) → AreNumbersOf pool ns xs → slice_get xs n ≡ Some x → slice_get pool (moved_number ns n) ≡ Some x
moved_one pool [] [] n x are e = absurd (let h : None ≡ Some x = e in cc)
moved_one pool [] (y ∷ xs) n x are e = absurd are
moved_one pool (m ∷ ns) [] n x are e = absurd (let h : None ≡ Some x = e in cc)
moved_one pool (m ∷ ns) (y ∷ xs) zero x are e = are.0 ∙ e
moved_one pool (m ∷ ns) (y ∷ xs) (suc n) x are e = moved_one pool ns xs n x are.1 e

moved_none : (ts : List ℕ) (n : ℕ) → length ts < 2 ^ 32 → n ≡ 4294967295 → moved_number ts n ≡ 4294967295
moved_none ts n small e = get_or_past ts n 4294967295 (omega (arith, small, e))

moved_row : {X : Type 0} (new old : List X) (ts ns : List ℕ) (xs : List X) → AreNumbersOf new ts old → length ts < 2 ^ 32 → AreNumbersOf old ns xs → AreNumbersOf new (map (moved_number ts) ns) xs
moved_row new old ts [] [] all small are = are
moved_row new old ts [] (x ∷ xs) all small are = absurd are
moved_row new old ts (n ∷ ns) [] all small are = (moved_none ts n small are.0, moved_row new old ts ns [] all small are.1)
moved_row new old ts (n ∷ ns) (x ∷ xs) all small are = (moved_one new ts old n x all are.0, moved_row new old ts ns xs all small are.1)

five : (ts ns : List ℕ) → length ns ≡ 5 → map (moved_number ts) ns ≡ moved_at ts ns 0 ∷ moved_at ts ns 1 ∷ moved_at ts ns 2 ∷ moved_at ts ns 3 ∷ moved_at ts ns 4 ∷ []
five ts [] e = absurd (omega (arith, e))
five ts (a ∷ []) e = absurd (omega (arith, e))
five ts (a ∷ b ∷ []) e = absurd (omega (arith, e))
five ts (a ∷ b ∷ c ∷ []) e = absurd (omega (arith, e))
five ts (a ∷ b ∷ c ∷ d ∷ []) e = absurd (omega (arith, e))
five ts (a ∷ b ∷ c ∷ d ∷ f ∷ []) e = refl
five ts (a ∷ b ∷ c ∷ d ∷ f ∷ g ∷ ns) e = absurd (omega (arith, e))

pub key_moved : (others parts : Parts) (r : PartNumbers) (k : Key) (s : State) → ArePartNumbersIn others parts r → length others.threads < 2 ^ 32 → IsKeyOf others k s → IsKeyOf parts (moved_key r k) s
key_moved others parts r k s are small is =
    let row = moved_row parts.threads others.threads r.threads k.threads s.threads are.threads (omega (arith, small, are.wide)) is.threads in
    let P : List ℕ → Type 0 = λ ns. AreNumbersOf parts.threads ns s.threads in
    record {
      memory = moved_one parts.memories r.memories others.memories k.memory s.memory are.memories is.memory;
      history = moved_one parts.histories r.histories others.histories k.history s.history are.histories is.history;
      threads = subst P (five r.threads k.threads is.wide) row;
      wide = refl;
    }

-- what is known of two stores and of the new numbers of the parts of one in the other
pub record IsMove (c : Client) (old new others : Parts) (ks ls : List Key) (r : PartNumbers) : Type 0 where
  pub grows : Grows old new
  pub small : length new.threads < 2 ^ 32
  pub few : length others.threads < 2 ^ 32
  pub kept : AreKept c old ks
  pub also : AreKept c others ls
  pub numbers : ArePartNumbersIn others new r
