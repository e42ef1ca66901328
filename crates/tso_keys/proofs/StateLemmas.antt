-- Lists of keys and of their states.
use Rattle.std.proofs.Common.{◌≡◌, ℕ, zero, suc, ◌<◌, ◌^◌, Bool, true, false, List, [], ◌∷◌, ◌++◌, length, Some, None, refl, sym, ap, subst, ◌∙◌, slice_get}
use Rattle.std.proofs.lemmas.Option.{get_or_from_slice_get}
use Rattle.std.specs.declared.cmp.Ordering.{Ordering}
use Rattle.tso_parts.specs.Numbers.{IsNumbered, IsNowhere, grown}
use Rattle.tso_prog.specs.declared.client.Client.{Client}
use Rattle.tso_state.specs.Order.{state_cmp}
use Rattle.tso_state.specs.declared.state.State.{State}
use Rattle.tso_keys.specs.declared.key.Key.{Key}
use Rattle.tso_keys.specs.declared.parts.Parts.{Parts}
use Rattle.tso_keys.specs.Keys.{AreKept, FitsClient, Grows, IsKeyOf, IsKept, state_at, states_at}
use Rattle.tso_keys.specs.Orders.{IsOrderOf}
use Rattle.tso_keys.proofs.Rows.{values_is, more_numbers, same_row}

-- the state of a key
pub key_state : (p : Parts) (k : Key) (s : State) → length p.threads < 2 ^ 32 → IsKeyOf p k s → state_at p k ≡ s
key_state p k s small is =
    let memory = get_or_from_slice_get p.memories k.memory s.memory [] is.memory in
    let history = get_or_from_slice_get p.histories k.history s.history [] is.history in
    let threads = values_is p.threads k.threads s.threads small is.threads in
    λ i. record { memory = memory i; threads = threads i; history = history i }

pub key_more : (old new : Parts) (k : Key) (s : State) → Grows old new → IsKeyOf old k s → IsKeyOf new k s
key_more old new k s grows is = record {
  memory = grows.memories k.memory s.memory is.memory;
  history = grows.histories k.history s.history is.history;
  threads = more_numbers old.threads new.threads k.threads s.threads grows.threads is.threads;
  wide = is.wide;
}

-- a key of a state of the client
pub kept_of : (c : Client) (p : Parts) (k : Key) (s : State) → length p.threads < 2 ^ 32 → IsKeyOf p k s → FitsClient c s → IsKept c p k
kept_of c p k s small is fits =
    let same = key_state p k s small is in
    let Q : State → Type 0 = λ t. IsKeyOf p k t in
    let F : State → Type 0 = λ t. FitsClient c t in
    record { key = subst Q (sym same) is; fits = subst F (sym same) fits }

pub states_stay : (c : Client) (old new : Parts) (ks : List Key) → Grows old new → length new.threads < 2 ^ 32 → AreKept c old ks → states_at new ks ≡ states_at old ks
states_stay c old new [] grows small all = refl
states_stay c old new (k ∷ ks) grows small all =
    let a = key_state new k (state_at old k) small (key_more old new k (state_at old k) grows all.0.key) in
    let b = states_stay c old new ks grows small all.1 in
    λ i. a i ∷ b i

pub kept_stay : (c : Client) (old new : Parts) (ks : List Key) → Grows old new → length new.threads < 2 ^ 32 → AreKept c old ks → AreKept c new ks
kept_stay c old new [] grows small all = all
kept_stay c old new (k ∷ ks) grows small all =
    (kept_of c new k (state_at old k) small (key_more old new k (state_at old k) grows all.0.key) all.0.fits, kept_stay c old new ks grows small all.1)

pub kept_at : (c : Client) (p : Parts) (ks : List Key) (i : ℕ) (k : Key) → AreKept c p ks → slice_get ks i ≡ Some k → IsKept c p k
kept_at c p [] i k all e = absurd (let h : None ≡ Some k = e in cc)
kept_at c p (x ∷ ks) zero k all e = let h : x ≡ k = cc in let Q : Key → Type 0 = IsKept c p in subst Q h all.0
kept_at c p (x ∷ ks) (suc i) k all e = kept_at c p ks i k all.1 e

pub state_got : (p : Parts) (ks : List Key) (i : ℕ) (k : Key) → slice_get ks i ≡ Some k → slice_get (states_at p ks) i ≡ Some (state_at p k)
state_got p [] i k e = absurd (let h : None ≡ Some k = e in cc)
state_got p (x ∷ ks) zero k e = let h : x ≡ k = cc in ap (λ (y : Key). Some (state_at p y)) h
state_got p (x ∷ ks) (suc i) k e = state_got p ks i k e

pub state_none : (p : Parts) (ks : List Key) (i : ℕ) → slice_get ks i ≡ None → slice_get (states_at p ks) i ≡ None
state_none p [] i e = refl
state_none p (x ∷ ks) zero e = absurd cc
state_none p (x ∷ ks) (suc i) e = state_none p ks i e

pub state_key : (p : Parts) (ks : List Key) (i : ℕ) (s : State) → slice_get (states_at p ks) i ≡ Some s → (k : Key) × (slice_get ks i ≡ Some k) × (state_at p k ≡ s)
state_key p [] i s e = absurd (let h : None ≡ Some s = e in cc)
state_key p (x ∷ ks) zero s e = let h : state_at p x ≡ s = cc in (x, refl, h)
state_key p (x ∷ ks) (suc i) s e = state_key p ks i s e

kept_end : (c : Client) (p : Parts) (ks : List Key) (k : Key) → AreKept c p ks → IsKept c p k → AreKept c p (ks ++ k ∷ [])
kept_end c p [] k all one = (one, all)
kept_end c p (x ∷ ks) k all one = (all.0, kept_end c p ks k all.1 one)

states_end : (p : Parts) (ks : List Key) (k : Key) → states_at p (ks ++ k ∷ []) ≡ states_at p ks ++ state_at p k ∷ []
states_end p [] k = refl
states_end p (x ∷ ks) k = ap (λ (ss : List State). state_at p x ∷ ss) (states_end p ks k)

pub grown_states : (p : Parts) (ks : List Key) (k : Key) (b : Bool) → states_at p (grown ks k b) ≡ grown (states_at p ks) (state_at p k) b
grown_states p ks k true = states_end p ks k
grown_states p ks k false = refl

grown_kept : (c : Client) (p : Parts) (ks : List Key) (k : Key) (b : Bool) → AreKept c p ks → IsKept c p k → AreKept c p (grown ks k b)
grown_kept c p ks k true all one = kept_end c p ks k all one
grown_kept c p ks k false all one = all

pub added_kept : (c : Client) (old new : Parts) (ks after : List Key) (k : Key) (s : State) (b : Bool) → Grows old new → length new.threads < 2 ^ 32 → AreKept c old ks → IsKeyOf new k s → FitsClient c s → after ≡ grown ks k b → AreKept c new after
added_kept c old new ks after k s b grows small all is fits e =
    rw e (grown_kept c new ks k b (kept_stay c old new ks grows small all) (kept_of c new k s small is fits))

-- a state has one key
pub same_key : (p : Parts) (k l : Key) (s : State) → IsNumbered p.memories → IsNumbered p.histories → IsNumbered p.threads → IsKeyOf p k s → IsKeyOf p l s → k ≡ l
same_key p k l s one two three a b =
    let memory = one k.memory l.memory s.memory a.memory b.memory in
    let history = two k.history l.history s.history a.history b.history in
    let threads = same_row p.threads k.threads l.threads s.threads three (a.wide ∙ sym b.wide) a.threads b.threads in
    λ i. record { memory = memory i; history = history i; threads = threads i }

-- the key of a state that is there
pub there_key : (c : Client) (p : Parts) (ks : List Key) (i : ℕ) (s : State) → AreKept c p ks → slice_get (states_at p ks) i ≡ Some s → (k : Key) × (slice_get ks i ≡ Some k) × IsKeyOf p k s
there_key c p ks i s all e =
    let f = state_key p ks i s e in
    let Q : State → Type 0 = λ t. IsKeyOf p f.0 t in
    (f.0, f.1, subst Q f.2 (kept_at c p ks i f.0 all f.1).key)

pub no_state : (c : Client) (p : Parts) (ks : List Key) (k : Key) (s : State) → IsNumbered p.memories → IsNumbered p.histories → IsNumbered p.threads → AreKept c p ks → IsKeyOf p k s → IsNowhere ks k → IsNowhere (states_at p ks) s
no_state c p ks k s one two three all is none i e =
    let f = there_key c p ks i s all e in
    none i (f.1 ∙ ap Some (same_key p f.0 k s one two three f.2 is))

pub no_key : (c : Client) (p : Parts) (ks : List Key) (s : State) → AreKept c p ks → ((k : Key) → IsKeyOf p k s → ⊥) → IsNowhere (states_at p ks) s
no_key c p ks s all none i e = let f = there_key c p ks i s all e in none f.0 f.2

-- a state that does not fit is not there
pub no_misfit : (c : Client) (p : Parts) (ks : List Key) (s : State) → AreKept c p ks → (FitsClient c s → ⊥) → IsNowhere (states_at p ks) s
no_misfit c p ks s all none i e =
    let f = state_key p ks i s e in
    let F : State → Type 0 = λ t. FitsClient c t in
    none (subst F f.2 (kept_at c p ks i f.0 all f.1).fits)

pub found_state : (p : Parts) (ks : List Key) (n : ℕ) (k : Key) (s : State) → length p.threads < 2 ^ 32 → IsKeyOf p k s → slice_get ks n ≡ Some k → slice_get (states_at p ks) n ≡ Some s
found_state p ks n k s small is at = state_got p ks n k at ∙ ap Some (key_state p k s small is)

-- states with different numbers differ
pub states_numbered : (c : Client) (p : Parts) (ks : List Key) → IsNumbered p.memories → IsNumbered p.histories → IsNumbered p.threads → IsNumbered ks → AreKept c p ks → IsNumbered (states_at p ks)
states_numbered c p ks one two three keys all i j s e f =
    let a = there_key c p ks i s all e in
    let b = there_key c p ks j s all f in
    keys i j a.0 a.1 (b.1 ∙ ap Some (same_key p b.0 a.0 s one two three b.2 a.2))

-- ---- orders of numbered states

no_such : (p : Parts) (ks : List Key) (n : ℕ) (s : State) → slice_get ks n ≡ None → slice_get (states_at p ks) n ≡ Some s → ⊥
no_such p ks n s none at = absurd (let h : None ≡ Some s = sym (state_none p ks n none) ∙ at in cc)

pub no_first : (p : Parts) (ks : List Key) (n m : ℕ) → slice_get ks n ≡ None → (s t : State) → slice_get (states_at p ks) n ≡ Some s → slice_get (states_at p ks) m ≡ Some t → ⊥
no_first p ks n m none s t at there = no_such p ks n s none at

pub no_second : (p : Parts) (ks : List Key) (n m : ℕ) → slice_get ks m ≡ None → (s t : State) → slice_get (states_at p ks) n ≡ Some s → slice_get (states_at p ks) m ≡ Some t → ⊥
no_second p ks n m none s t at there = no_such p ks m t none there

pub ordered : (p : Parts) (ks : List Key) (n m : ℕ) (k l : Key) (o : Ordering) → slice_get ks n ≡ Some k → slice_get ks m ≡ Some l → o ≡ state_cmp (state_at p k) (state_at p l) → IsOrderOf (states_at p ks) n m o
ordered p ks n m k l o at there is = record {
  first = state_at p k;
  second = state_at p l;
  first_at = state_got p ks n k at;
  second_at = state_got p ks m l there;
  order = is;
}
