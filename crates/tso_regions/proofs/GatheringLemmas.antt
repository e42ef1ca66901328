-- What several regions have among them, and that all their states together are searched.
use Rattle.std.proofs.Common.{◌≡◌, ◌∙◌, ℕ, zero, suc, ◌+◌, ◌<◌, ◌++◌, ◌==◌, inl, inr, Bool, true, false, List, [], ◌∷◌, length, Option, None, Some, slice_get, refl, sym, ap, subst, arith, if◌then◌else◌, take, eq-eqb, ne_eqb, eqb-true, add-one, option_map}
use Rattle.std.proofs.lemmas.Bool.Decides.{eqb_tells}
use Rattle.std.proofs.lemmas.List.{append-nil, nil_from_length, take_more}
use Rattle.std.proofs.lemmas.Option.{get_or_from_slice_get, none-some, same_Some, slice_get_within, slice_get-get_or, slice_get-map}
use Rattle.tso_compact.specs.Laws.{initial_of}
use Rattle.tso_foot.specs.declared.table.Table.{Table}
use Rattle.tso_parts.proofs.Marked.{new_item, of_longer, old_item}
use Rattle.tso_parts.specs.Numbers.{IsNumbered}
use Rattle.tso_prog.specs.declared.client.Client.{Client}
use Rattle.tso_rec.specs.Conditions.{IsKeptAfter}
use Rattle.tso_regions.specs.Gathering.{AreGathered, AreSettled, IsOwned, IsSettled, owned_below, state_at}
use Rattle.tso_regions.specs.Owners.{owner_in}
use Rattle.tso_regions.specs.Regions.{Domain}
use Rattle.tso_search.proofs.SearchLemmas.{kept_at}
use Rattle.tso_search.specs.Reached.{AllMet}
use Rattle.tso_search.specs.BySteps.{AreSearched, IsDone, IsWorked, IsWorkedAt}
use Rattle.tso_state.specs.Views.{state_of}
use Rattle.tso_state.specs.declared.actor.Actor.{Actor}
use Rattle.tso_state.specs.declared.state.State.{State}
use Rattle.tso_store.specs.Gathering.{picked}

-- ---- lists

-- an item of one list behind another
pub got_left : {X : Type 0} (xs ys : List X) (k : ℕ) (x : X) → slice_get xs k ≡ Some x → slice_get (xs ++ ys) k ≡ Some x
got_left [] ys k x e = absurd (none-some x e)
got_left (y ∷ xs) ys zero x e = e
got_left (y ∷ xs) ys (suc k) x e = got_left xs ys k x e

got_right : {X : Type 0} (xs ys : List X) (k : ℕ) (x : X) → slice_get ys k ≡ Some x → (m : ℕ) × (slice_get (xs ++ ys) m ≡ Some x)
got_right [] ys k x e = (k, e)
got_right (y ∷ xs) ys k x e = let (m, at) = got_right xs ys k x e in (suc m, at)

got_either : {X : Type 0} (xs ys : List X) (k : ℕ) (x : X) {C : Type 0} → slice_get (xs ++ ys) k ≡ Some x → (slice_get xs k ≡ Some x → C) → ((j : ℕ) → k ≡ length xs + j → slice_get ys j ≡ Some x → C) → C
got_either [] ys k x e old new = new k (omega arith) e
got_either (y ∷ xs) ys zero x e old new = old e
got_either (y ∷ xs) ys (suc k) x e old new = got_either xs ys k x e old (λ j same at. new j (omega (arith, same)) at)

-- lists without a common item, in each of which an item has one number, one behind the other
numbered_both : {X : Type 0} (xs ys : List X) → IsNumbered xs → IsNumbered ys → ((i j : ℕ) (x : X) → slice_get xs i ≡ Some x → slice_get ys j ≡ Some x → ⊥) → IsNumbered (xs ++ ys)
numbered_both xs ys p q apart i j x a b = got_either xs ys i x a
    (λ e. got_either xs ys j x b (λ f. p i j x e f) (λ m is f. absurd (apart i m x e f)))
    (λ k same e. got_either xs ys j x b (λ f. absurd (apart j k x f e)) (λ m is f. let one : k ≡ m = q k m x e f in omega (arith, same, is, one)))

-- an item of a list that may have another at its end
longer_if : {X : Type 0} (xs : List X) (x : X) (b : Bool) (k : ℕ) (y : X) {C : Type 0} → slice_get (if b then xs ++ x ∷ [] else xs) k ≡ Some y
    → (slice_get xs k ≡ Some y → C) → (b ≡ true → k ≡ length xs → x ≡ y → C) → C
longer_if xs x true k y e old new = of_longer xs x y k e old (λ last same. new refl last same)
longer_if xs x false k y e old new = old e

old_if : {X : Type 0} (xs : List X) (x : X) (b : Bool) (k : ℕ) (y : X) → slice_get xs k ≡ Some y → slice_get (if b then xs ++ x ∷ [] else xs) k ≡ Some y
old_if xs x true k y e = old_item xs x y k e
old_if xs x false k y e = e

new_if : {X : Type 0} (xs : List X) (x : X) (b : Bool) → b ≡ true → slice_get (if b then xs ++ x ∷ [] else xs) (length xs) ≡ Some x
new_if xs x true e = new_item xs x
new_if xs x false e = absurd (let clash : false ≡ true = e in cc)

same_or_not : (a b : ℕ) {C : Type 0} → (a ≡ b → C) → ((a ≡ b → ⊥) → C) → C
same_or_not a b same other = elim (eqb_tells a b) [ inl e ↦ same e.1 | inr e ↦ other e.1 ]

pub by_option : {X Y : Type 0} (f : X → Y) (o : Option X) (y : Y) → option_map f o ≡ Some y → (x : X) × (o ≡ Some x) × (f x ≡ y)
by_option f None y e = absurd (none-some y e)
by_option f (Some x) y e = (x, refl, same_Some (f x) y e)

-- ---- the numbers of an owner's states

state_at_is : (states : List State) (n : ℕ) (s : State) → slice_get states n ≡ Some s → state_at states n ≡ s
state_at_is states n s at = get_or_from_slice_get states n s _ at

state_is_there : (states : List State) (n : ℕ) → n < length states → slice_get states n ≡ Some (state_at states n)
state_is_there states n lt = slice_get-get_or states n _ lt

pub owned_is : (count i : ℕ) (states : List State) (m k n : ℕ) → slice_get (owned_below count i states m) k ≡ Some n → (n < m) × (owner_in count (state_at states n) ≡ i)
owned_is count i states zero k n e = absurd (none-some n e)
owned_is count i states (suc m) k n e = longer_if (owned_below count i states m) m (owner_in count (state_at states m) == i) k n e
    (λ old. let (lt, is) = owned_is count i states m k n old in (omega (arith, lt), is))
    (λ on last same. (omega (arith, same), subst (λ x. owner_in count (state_at states x) ≡ i) same (eqb-true _ _ on)))

owned_has : (count i : ℕ) (states : List State) (m n : ℕ) → n < m → owner_in count (state_at states n) ≡ i → (k : ℕ) × (slice_get (owned_below count i states m) k ≡ Some n)
owned_has count i states zero n lt is = absurd (omega (arith, lt))
owned_has count i states (suc m) n lt is = same_or_not m n
    (λ same. (
      length (owned_below count i states m),
      new_if (owned_below count i states m) m (owner_in count (state_at states m) == i) (eq-eqb _ _ (subst (λ x. owner_in count (state_at states x) ≡ i) (sym same) is)) ∙ ap Some same,
    ))
    (λ other.
    let (k, at) = owned_has count i states m n (same_or_not n m (λ e. absurd (other (sym e))) (λ ne. omega (arith, lt, ne))) is in
    (k, old_if (owned_below count i states m) m (owner_in count (state_at states m) == i) k n at))

owned_numbered : (count i : ℕ) (states : List State) (m : ℕ) → IsNumbered (owned_below count i states m)
owned_numbered count i states zero k l n e f = absurd (none-some n e)
owned_numbered count i states (suc m) k l n e f =
    let xs = owned_below count i states m in
    let b = owner_in count (state_at states m) == i in
    let before : (j : ℕ) → slice_get xs j ≡ Some n → m ≡ n → ⊥ = λ j at same. (let below = (owned_is count i states m j n at).0 in omega (arith, below, same)) in
    longer_if xs m b k n e
    (λ p. longer_if xs m b l n f (λ q. owned_numbered count i states m k l n p q) (λ on last same. absurd (before k p same)))
    (λ on last same. longer_if xs m b l n f (λ q. absurd (before l q same)) (λ too last' same'. last ∙ sym last'))

-- ---- the states of an owner

taken_at : (states : List State) (ns : List ℕ) (k : ℕ) (s : State) → slice_get (picked states ns) k ≡ Some s → (n : ℕ) × (slice_get ns k ≡ Some n) × (state_at states n ≡ s)
taken_at states ns k s e = by_option (state_at states) (slice_get ns k) s (sym (slice_get-map (state_at states) ns k) ∙ e)

put_at : (states : List State) (ns : List ℕ) (k n : ℕ) (s : State) → slice_get ns k ≡ Some n → slice_get states n ≡ Some s → slice_get (picked states ns) k ≡ Some s
put_at states ns k n s e at = slice_get-map (state_at states) ns k ∙ ap (option_map (state_at states)) e ∙ ap Some (state_at_is states n s at)

-- a state that an owner lists as its own
record IsTaken (count i : ℕ) (states : List State) (k : ℕ) (s : State) : Type 0 where
  number : ℕ
  listed : slice_get (owned_below count i states (length states)) k ≡ Some number
  at : slice_get states number ≡ Some s
  is : owner_in count s ≡ i

taken : (count i : ℕ) (states : List State) (k : ℕ) (s : State) → slice_get (picked states (owned_below count i states (length states))) k ≡ Some s → IsTaken count i states k s
taken count i states k s e =
    let (n, listed, same) = taken_at states (owned_below count i states (length states)) k s e in
    let (lt, is) = owned_is count i states (length states) k n listed in
    record { number = n; listed = listed; at = state_is_there states n lt ∙ ap Some same; is = subst (λ (x : State). owner_in count x ≡ i) same is }

put : (count i : ℕ) (states : List State) (n : ℕ) (s : State) → slice_get states n ≡ Some s → owner_in count s ≡ i → (k : ℕ) × (slice_get (picked states (owned_below count i states (length states))) k ≡ Some s)
put count i states n s at is =
    let (k, e) = owned_has count i states (length states) n (slice_get_within states n s at) (subst (λ (x : State). owner_in count x ≡ i) (sym (state_at_is states n s at)) is) in
    (k, put_at states (owned_below count i states (length states)) k n s e at)

taken_numbered : (count i : ℕ) (states : List State) → IsNumbered states → IsNumbered (picked states (owned_below count i states (length states)))
taken_numbered count i states differ k l s e f =
    let p = taken count i states k s e in
    let q = taken count i states l s f in
    let same : p.number ≡ q.number = differ p.number q.number s p.at q.at in
    owned_numbered count i states (length states) k l q.number (p.listed ∙ ap Some same) q.listed

-- ---- the states that regions list as their own

pub gathered_none : (c : Client) (count : ℕ) (domains : List Domain) → AreGathered c count domains 0 []
gathered_none c count domains = record {
  from = λ m s e. absurd (none-some s e);
  has = λ i n d s lt e f is. absurd (omega (arith, lt));
  differ = λ i j x e f. absurd (none-some x e);
  met = λ n s e. absurd (none-some s e);
}

owned_more : (count : ℕ) (domains : List Domain) (k : ℕ) (s : State) → IsOwned count domains k s → IsOwned count domains (k + 1) s
owned_more count domains k s o = record {
  owner = o.owner;
  domain = o.domain;
  number = o.number;
  below = (let lt = o.below in omega (arith, lt));
  domain_at = o.domain_at;
  at = o.at;
  is = o.is;
}

gathered_both : (c : Client) (count k : ℕ) (domains : List Domain) (d : Domain) (states : List State) → AreGathered c count domains k states → slice_get domains k ≡ Some d
    → AllMet c d.states → IsNumbered d.states → AreGathered c count domains (k + 1) (states ++ picked d.states (owned_below count k d.states (length d.states)))
gathered_both c count k domains d states g here met differ = record {
  from = λ m s e. got_either states mine m s e
      (λ old. owned_more count domains k s (g.from m s old))
      (λ j same new. let p = taken count k d.states j s new in record {
        owner = k;
        domain = d;
        number = p.number;
        below = omega arith;
        domain_at = here;
        at = p.at;
        is = p.is;
      });
  has = λ i n r s lt r_at at is. same_or_not i k
      (λ same.
      let one : r ≡ d = same_Some r d (sym r_at ∙ ap (slice_get domains) same ∙ here) in
      let (j, there) = put count k d.states n s (subst (λ (r : Domain). slice_get r.states n ≡ Some s) one at) (is ∙ same) in
      got_right states mine j s there)
      (λ other.
      let (m, there) = g.has i n r s (omega (arith, lt, other)) r_at at is in
      (m, got_left states mine m s there));
  differ = numbered_both states mine g.differ (taken_numbered count k d.states differ) (λ i j s e f.
      let o = g.from i s e in
      let p = taken count k d.states j s f in
      let lt = o.below in
      let same : o.owner ≡ k = sym o.is ∙ p.is in
      omega (arith, lt, same));
  met = λ m s e. got_either states mine m s e
      (λ old. g.met m s old)
      (λ j same new. let p = taken count k d.states j s new in met p.number s p.at);
}
  where
    mine : List State
    mine = picked d.states (owned_below count k d.states (length d.states))

-- with those of one more region
pub gathered_more : (c : Client) (count k : ℕ) (domains : List Domain) (d : Domain) (states new : List State) → AreGathered c count domains k states → slice_get domains k ≡ Some d
    → d.own ≡ owned_below count k d.states (length d.states) → AllMet c d.states → IsNumbered d.states → new ≡ states ++ picked d.states d.own → AreGathered c count domains (k + 1) new
gathered_more c count k domains d states new g here own met differ is =
    let same : new ≡ states ++ picked d.states (owned_below count k d.states (length d.states)) = is ∙ ap (λ (ns : List ℕ). states ++ picked d.states ns) own in
    subst (AreGathered c count domains (k + 1)) (sym same) (gathered_both c count k domains d states g here met differ)

-- ---- a pointer into a region's list, while all its states are gone over

pub owned_next_own : (count i n : ℕ) (states : List State) (p : ℕ) (own : List ℕ) (s : State) → take p own ≡ owned_below count i states n → slice_get states n ≡ Some s → owner_in count s ≡ i
    → slice_get own p ≡ Some n → take (p + 1) own ≡ owned_below count i states (n + 1)
owned_next_own count i n states p own s before at is here =
    let test : (owner_in count (state_at states n) == i) ≡ true = eq-eqb _ _ (subst (λ (x : State). owner_in count x ≡ i) (sym (state_at_is states n s at)) is) in
    let next : owned_below count i states (suc n) ≡ owned_below count i states n ++ n ∷ [] = ap (λ (b : Bool). if b then owned_below count i states n ++ n ∷ [] else owned_below count i states n) test in
    take_more own p 0 (slice_get_within own p n here) ∙ ap (λ (x : ℕ). take p own ++ x ∷ []) (get_or_from_slice_get own p n 0 here) ∙ ap (λ (xs : List ℕ). xs ++ n ∷ []) before ∙ sym next
    ∙ ap (owned_below count i states) (sym (add-one n))

pub owned_next_other : (count i n : ℕ) (states : List State) (p : ℕ) (own : List ℕ) (s : State) → take p own ≡ owned_below count i states n → slice_get states n ≡ Some s → (owner_in count s ≡ i → ⊥)
    → take p own ≡ owned_below count i states (n + 1)
owned_next_other count i n states p own s before at other =
    let test : (owner_in count (state_at states n) == i) ≡ false = ne_eqb _ _ (subst (λ (x : State). owner_in count x ≡ i → ⊥) (sym (state_at_is states n s at)) other) in
    let next : owned_below count i states (suc n) ≡ owned_below count i states n = ap (λ (b : Bool). if b then owned_below count i states n ++ n ∷ [] else owned_below count i states n) test in
    before ∙ sym next ∙ ap (owned_below count i states) (sym (add-one n))

-- a region whose first state is its own lists it first
pub first_gathered : (count : ℕ) (d : Domain) (s : State) → slice_get d.own 0 ≡ Some 0 → slice_get d.states 0 ≡ Some s → slice_get (picked d.states d.own) 0 ≡ Some s
first_gathered count d s own at = put_at d.states d.own 0 0 s own at

-- ---- all are worked

kept_among : (c : Client) (old new : List State) (s : State) (a : Actor) → ((x : State) (n : ℕ) → slice_get old n ≡ Some x → (m : ℕ) × (slice_get new m ≡ Some x)) → IsKeptAfter c old s a → IsKeptAfter c new s a
kept_among c old new s a among k =
    let (i, lt, e) = k.kept in
    let (m, at) = among k.after i (slice_get-get_or old i k.after lt ∙ ap Some e) in
    kept_at c new s k.after a m k.step at

-- what is worked in some states is so in others that have each of them
pub worked_among : (c : Client) (t : Table) (old new : List State) (s : State) → ((x : State) (n : ℕ) → slice_get old n ≡ Some x → (m : ℕ) × (slice_get new m ≡ Some x)) → IsWorked c t old s → IsWorked c t new s
worked_among c t old new s among w = record {
  kept = record { set = w.kept.set; chosen = w.kept.chosen; moves = λ choices chosen k d lt. kept_among c old new s _ among (w.kept.moves choices chosen k d lt) };
  unstopped = w.unstopped;
  explained = w.explained;
}

-- each state that a region has is among those that are gathered of all
pub within : (c : Client) (count : ℕ) (domains : List Domain) (states : List State) (i : ℕ) (d : Domain) → length domains ≡ count → AreGathered c count domains count states
    → slice_get domains i ≡ Some d → IsSettled count domains i d → (x : State) (n : ℕ) → slice_get d.states n ≡ Some x → (m : ℕ) × (slice_get states m ≡ Some x)
within c count domains states i d long g here settled x n at = same_or_not (owner_in count x) i
    (λ same. let lt = slice_get_within domains i d here in g.has i n d x (omega (arith, lt, long)) here at same)
    (λ other.
    let h = settled.held n x at other in
    let lt = slice_get_within domains (owner_in count x) h.keeper h.keeper_at in
    g.has (owner_in count x) h.number h.keeper x (omega (arith, lt, long)) h.keeper_at h.at refl)

pub all_worked : (c : Client) (t : Table) (count : ℕ) (domains : List Domain) (states : List State) → length domains ≡ count → AreSettled c t count domains → AreGathered c count domains count states
    → (n : ℕ) → IsWorkedAt c t states n
all_worked c t count domains states long settled g n s at =
    let o = g.from n s at in
    let (own, known) = settled o.owner o.domain o.domain_at in
    let done : IsDone c t o.domain.states o.number = known.done o.number (own.worked o.number s o.at o.is) in
    let same : done.state ≡ s = same_Some done.state s (sym done.at ∙ o.at) in
    worked_among c t o.domain.states states s (within c count domains states o.owner o.domain long g o.domain_at own) (subst (IsWorked c t o.domain.states) same done.worked)

pub all_searched : (c : Client) (t : Table) (count : ℕ) (domains : List Domain) (states : List State) (initial : State) → length domains ≡ count → AreSettled c t count domains
    → AreGathered c count domains count states → slice_get states 0 ≡ Some initial → state_of initial ≡ initial_of c → AreSearched c t states
all_searched c t count domains states initial long settled g first is = record {
  begun = record { initial = initial; initial_at = first; initial_is = is; met = g.met };
  worked = all_worked c t count domains states long settled g;
}

-- ---- the first of them

-- where one of the first k regions is the first, what it begins with comes first
abbrev pub IsFirst : List Domain → ℕ → List State → Type 0
IsFirst domains k states = (d : Domain) (s : State) → 0 < k → slice_get domains 0 ≡ Some d → slice_get d.own 0 ≡ Some 0 → slice_get d.states 0 ≡ Some s → slice_get states 0 ≡ Some s

pub first_none : (domains : List Domain) (states : List State) → IsFirst domains 0 states
first_none domains states d s some at own here = absurd (omega (arith, some))

pub first_more : (count k : ℕ) (domains : List Domain) (d : Domain) (states new : List State) → IsFirst domains k states → (k ≡ 0 → states ≡ []) → slice_get domains k ≡ Some d → new ≡ states ++ picked d.states d.own → IsFirst domains (k + 1) new
first_more count zero domains d states new first none there is e s some at own here =
    let same : d ≡ e = same_Some d e (sym there ∙ at) in
    let begins : slice_get (picked e.states e.own) 0 ≡ Some s = first_gathered count e s own here in
    let also : slice_get (picked d.states d.own) 0 ≡ Some s = subst (λ (x : Domain). slice_get (picked x.states x.own) 0 ≡ Some s) (sym same) begins in
    let alone : new ≡ picked d.states d.own = is ∙ ap (λ (xs : List State). xs ++ picked d.states d.own) (none refl) in
    subst (λ (xs : List State). slice_get xs 0 ≡ Some s) (sym alone) also
first_more count (suc k) domains d states new first none there is e s some at own here =
    subst (λ (xs : List State). slice_get xs 0 ≡ Some s) (sym is) (got_left states (picked d.states d.own) 0 s (first e s (omega arith) at own here))

-- where nothing is left all have come
pub came_all : {X : Type 0} (came rest all : List X) → length rest ≡ 0 → came ++ rest ≡ all → came ≡ all
came_all came rest all none e = sym (append-nil came) ∙ ap (λ xs. came ++ xs) (sym (nil_from_length rest none)) ∙ e
