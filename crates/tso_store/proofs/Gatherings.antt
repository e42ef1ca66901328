-- States that are gathered from several stores.
use Rattle.std.proofs.Common.{◌≡◌, ◌∙◌, ℕ, suc, ◌<◌, ◌^◌, List, [], ◌∷◌, ◌++◌, length, map, refl, sym, ap, arith, slice_get, slice_index_or, subst, None, Some, IsTrue, false}
use Rattle.std.proofs.lemmas.Bool.{false≢true}
use Rattle.std.proofs.lemmas.List.{length-map, map-append}
use Rattle.std.proofs.lemmas.Option.{get_or_from_slice_get, same_Some}
use Rattle.tso_parts.specs.Numbers.{IsNumbered}
use Rattle.tso_parts.proofs.Marked.{item_at}
use Rattle.tso_prog.specs.declared.client.Client.{Client}
use Rattle.tso_state.specs.declared.state.State.{State}
use Rattle.tso_store.specs.Gathering.{AreGathered, AreThere, moved_from, no_state, picked}
use Rattle.tso_keys.specs.Keys.{AreKept, Grows, IsKept, IsKeyOf, state_at, states_at}
use Rattle.tso_keys.specs.Moving.{ArePartNumbersIn, moved_key}
use Rattle.tso_keys.specs.declared.key.Key.{Key}
use Rattle.tso_keys.specs.declared.key.TheConstants.{NO_KEY}
use Rattle.tso_keys.specs.declared.moved.PartNumbers.{PartNumbers}
use Rattle.tso_keys.specs.declared.parts.Parts.{Parts}
use Rattle.tso_keys.proofs.Moves.{IsMove, key_moved}
use Rattle.tso_keys.proofs.StateLemmas.{found_state, kept_at, kept_of, kept_stay, key_state, same_key, state_got, state_none, states_stay, there_key}

-- one key for one state
pub keys_differ : (p : Parts) (ks : List Key) → IsNumbered (states_at p ks) → IsNumbered ks
keys_differ p ks differ i j k e f = differ i j (state_at p k) (state_got p ks i k e) (state_got p ks j k f)

kept_append : (c : Client) (p : Parts) (ks ls : List Key) → AreKept c p ks → AreKept c p ls → AreKept c p (ks ++ ls)
kept_append c p [] ls one two = two
kept_append c p (k ∷ ks) ls one two = (one.0, kept_append c p ks ls one.1 two)

-- where only parts have come
pub gathered_grows : (c : Client) (old new : Parts) (ks : List Key) → AreGathered c old ks → Grows old new → AreGathered c new ks
gathered_grows c old new ks are grows = record { kept = kept_stay c old new ks grows (grows.small are.small) are.kept; small = grows.small are.small }

pub gathered_stay : (c : Client) (old new : Parts) (ks : List Key) → AreGathered c old ks → Grows old new → states_at new ks ≡ states_at old ks
gathered_stay c old new ks are grows = states_stay c old new ks grows (grows.small are.small) are.kept

-- what is known after the parts have come
pub gathering_move : (c d : Client) (old new others : Parts) (ks ls : List Key) (r : PartNumbers) → AreGathered c old ks → AreKept d others ls → d ≡ c → Grows old new → ArePartNumbersIn others new r → length others.threads < 2 ^ 32
    → IsMove c old new others ks ls r
gathering_move c d old new others ks ls r are kept same grows numbers few =
    let P : Client → Type 0 = λ e. AreKept e others ls in
    record { grows = grows; small = grows.small are.small; few = few; kept = are.kept; also = subst P same kept; numbers = numbers }

module _ (c : Client) (old new others : Parts) (ks ls : List Key) (r : PartNumbers) (move : IsMove c old new others ks ls r) where
  -- the state with a number, by its new key
  picked_one : (n : ℕ) → n < length (states_at others ls) → IsKept c new (moved_from r ls n) × (state_at new (moved_from r ls n) ≡ slice_index_or (states_at others ls) n no_state)
  picked_one n less =
      let P : Key → Type 0 = λ l. IsKept c new (moved_key r l) × (state_at new (moved_key r l) ≡ slice_index_or (states_at others ls) n no_state) in
      item_at ls n {C = P (slice_index_or ls n NO_KEY)} (omega (arith, less, length-map ls (state_at others)))
      (λ k e.
      let was = kept_at c others ls n k move.also e in
      let key = key_moved others new r k (state_at others k) move.numbers move.few was.key in
      subst P (sym (get_or_from_slice_get ls n k NO_KEY e)) (
        kept_of c new (moved_key r k) (state_at others k) move.small key was.fits,
        key_state new (moved_key r k) (state_at others k) move.small key ∙ sym (get_or_from_slice_get (states_at others ls) n (state_at others k) no_state (state_got others ls n k e)),
      ))

  picked_kept : (ns : List ℕ) → AreThere (states_at others ls) ns → AreKept c new (map (moved_from r ls) ns)
  picked_kept [] there = tt
  picked_kept (n ∷ ns) there = ((picked_one n (there 0 n refl)).0, picked_kept ns (λ i m e. there (suc i) m e))

  picked_states : (ns : List ℕ) → AreThere (states_at others ls) ns → states_at new (map (moved_from r ls) ns) ≡ picked (states_at others ls) ns
  picked_states [] there = refl
  picked_states (n ∷ ns) there =
      let a = (picked_one n (there 0 n refl)).1 in
      let b = picked_states ns (λ i m e. there (suc i) m e) in
      λ i. a i ∷ b i

  -- the keys behind those that were there
  pub gathered_kept : (after : List Key) (ns : List ℕ) → AreThere (states_at others ls) ns → after ≡ ks ++ map (moved_from r ls) ns → AreGathered c new after
  gathered_kept after ns there e =
      rw e (record { kept = kept_append c new ks (map (moved_from r ls) ns) (kept_stay c old new ks move.grows move.small move.kept) (picked_kept ns there); small = move.small })

  pub gathered_states : (after : List Key) (ns : List ℕ) → AreThere (states_at others ls) ns → after ≡ ks ++ map (moved_from r ls) ns → states_at new after ≡ states_at old ks ++ picked (states_at others ls) ns
  gathered_states after ns there e =
      ap (states_at new) e ∙ map-append (state_at new) ks (map (moved_from r ls) ns)
      ∙ (λ i. states_stay c old new ks move.grows move.small move.kept i ++ picked_states ns there i)

-- ---- those of others

module _ (c : Client) (new others : Parts) (r : PartNumbers) (small : length new.threads < 2 ^ 32) (few : length others.threads < 2 ^ 32) (numbers : ArePartNumbersIn others new r) where
  all_kept : (ls : List Key) → AreKept c others ls → AreKept c new (map (moved_key r) ls)
  all_kept [] also = tt
  all_kept (l ∷ ls) also = (kept_of c new (moved_key r l) (state_at others l) small (key_moved others new r l (state_at others l) numbers few also.0.key) also.0.fits, all_kept ls also.1)

  all_states : (ls : List Key) → AreKept c others ls → states_at new (map (moved_key r) ls) ≡ states_at others ls
  all_states [] also = refl
  all_states (l ∷ ls) also =
      let a = key_state new (moved_key r l) (state_at others l) small (key_moved others new r l (state_at others l) numbers few also.0.key) in
      let b = all_states ls also.1 in
      λ i. a i ∷ b i

module _ (c d : Client) (old new others : Parts) (ks ls after : List Key) (r : PartNumbers) (are : AreGathered c old ks) (also : AreGathered d others ls) (same : d ≡ c) (grows : Grows old new) (numbers : ArePartNumbersIn others new r) where
  abbrev own : AreKept c others ls
  own = let P : Client → Type 0 = λ e. AreKept e others ls in subst P same also.kept

  pub appended_kept : after ≡ ks ++ map (moved_key r) ls → AreGathered c new after
  appended_kept e =
      rw e (record { kept = kept_append c new ks (map (moved_key r) ls) (kept_stay c old new ks grows (grows.small are.small) are.kept) (all_kept c new others r (grows.small are.small) also.small numbers ls own); small = grows.small are.small })

  pub appended_states : after ≡ ks ++ map (moved_key r) ls → states_at new after ≡ states_at old ks ++ states_at others ls
  appended_states e =
      let stay = states_stay c old new ks grows (grows.small are.small) are.kept in
      let more = all_states c new others r (grows.small are.small) also.small numbers ls own in
      ap (states_at new) e ∙ map-append (state_at new) ks (map (moved_key r) ls) ∙ (λ i. stay i ++ more i)

-- ---- a state at a place

module _ (c : Client) (p : Parts) (ks : List Key) (n : ℕ) (k l : Key) (s : State) (one : IsNumbered p.memories) (two : IsNumbered p.histories) (three : IsNumbered p.threads) (small : length p.threads < 2 ^ 32) (all : AreKept c p ks) (is : IsKeyOf p k s) (at : slice_get ks n ≡ Some l) where
  pub at_key : l ≡ k → slice_get (states_at p ks) n ≡ Some s
  at_key same = found_state p ks n k s small is (at ∙ ap Some same)

  pub key_at : slice_get (states_at p ks) n ≡ Some s → l ≡ k
  key_at here =
      let there = there_key c p ks n s all here in
      let first : l ≡ there.0 = same_Some l there.0 (sym at ∙ there.1) in
      first ∙ same_key p there.0 k s one two three there.2 is

-- no, where it can't be
pub never : {A : Type 0} → (A → ⊥) → (IsTrue false → A) × (A → IsTrue false)
never none = (λ e. absurd (false≢true e), λ a. absurd (none a))

pub none_at : (p : Parts) (ks : List Key) (n : ℕ) (s : State) → slice_get ks n ≡ None → slice_get (states_at p ks) n ≡ Some s → ⊥
none_at p ks n s none here = let h : None ≡ Some s = sym (state_none p ks n none) ∙ here in cc
