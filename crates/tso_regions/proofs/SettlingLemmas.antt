-- Regions that are found to be settled, state by state and region by region.
use Rattle.std.proofs.Common.{◌≡◌, ◌∙◌, ℕ, ◌+◌, ◌<◌, ◌≤◌, ◌⊎◌, inl, inr, List, [], length, map, Option, Some, slice_get, refl, sym, ap, subst, arith, option_map}
use Rattle.std.specs.Prelude.{IsTrue}
use Rattle.std.proofs.lemmas.Bool.{cases_lt}
use Rattle.std.proofs.lemmas.List.{take_all}
use Rattle.std.proofs.lemmas.Option.{get_or_from_slice_get, same_Some, slice_get-map, slice_get_within}
use Rattle.tso_foot.specs.declared.table.Table.{Table}
use Rattle.tso_parts.specs.Numbers.{IsNumbered}
use Rattle.tso_prog.specs.declared.client.Client.{Client}
use Rattle.tso_regions.proofs.GatheringLemmas.{by_option, owned_next_other, owned_next_own}
use Rattle.tso_regions.specs.Gathering.{AreHalvesOf, AreOwners, AreSettled, AreSettledBetween, IsHeld, IsHeldAbroad, IsKnownRegion, IsNextOwn, IsSettled, IsSettledBelow, owned_below}
use Rattle.tso_regions.specs.Owners.{owner_in, owner_of}
use Rattle.tso_regions.specs.Regions.{Domain}
use Rattle.tso_search.specs.Marking.{is_marked}
use Rattle.tso_search.specs.Reached.{AllMet}
use Rattle.tso_search.specs.BySteps.{AreDone}
use Rattle.tso_state.specs.declared.state.State.{State}
use Rattle.tso_keys.specs.Keys.{state_at, states_at}
use Rattle.tso_keys.specs.declared.key.Key.{Key}
use Rattle.tso_keys.specs.declared.parts.Parts.{Parts}

-- ---- state by state

-- the next state is one of its own
pub settled_own : (count : ℕ) (domains : List Domain) (i : ℕ) (d : Domain) (n p : ℕ) → IsSettledBelow count domains i d n p → IsNextOwn count i d n p → IsSettledBelow count domains i d (n + 1) (p + 1)
settled_own count domains i d n p b next = record {
  own = owned_next_own count i n d.states p d.own next.state b.own next.at next.is next.next;
  worked = λ m s lt at is. worked m s (cases_lt m n) lt at is;
  held = λ m s lt at other. held m s (cases_lt m n) lt at other;
}
  where
    here : (m : ℕ) (s : State) → n ≤ m → m < n + 1 → slice_get d.states m ≡ Some s → (n ≡ m) × (next.state ≡ s)
    here m s ge lt at =
        let same : n ≡ m = omega (arith, ge, lt) in
        (same, same_Some next.state s (sym next.at ∙ ap (λ k. slice_get d.states k) same ∙ at))

    worked : (m : ℕ) (s : State) → (m < n) ⊎ (n ≤ m) → m < n + 1 → slice_get d.states m ≡ Some s → owner_in count s ≡ i → IsTrue (is_marked d.marks m)
    worked m s (inl less) lt at is = b.worked m s less at is
    worked m s (inr ge) lt at is = subst (λ k. IsTrue (is_marked d.marks k)) (here m s ge lt at).0 next.worked

    held : (m : ℕ) (s : State) → (m < n) ⊎ (n ≤ m) → m < n + 1 → slice_get d.states m ≡ Some s → (owner_in count s ≡ i → ⊥) → IsHeld count domains s
    held m s (inl less) lt at other = b.held m s less at other
    held m s (inr ge) lt at other = absurd (other (subst (λ (x : State). owner_in count x ≡ i) (here m s ge lt at).1 next.is))

-- it is one of another owner
pub settled_held : (count : ℕ) (domains : List Domain) (i : ℕ) (d : Domain) (n p : ℕ) → IsSettledBelow count domains i d n p → IsHeldAbroad count domains i d n → IsSettledBelow count domains i d (n + 1) p
settled_held count domains i d n p b next = record {
  own = owned_next_other count i n d.states p d.own next.state b.own next.at next.other;
  worked = λ m s lt at is. worked m s (cases_lt m n) lt at is;
  held = λ m s lt at other. held m s (cases_lt m n) lt at other;
}
  where
    here : (m : ℕ) (s : State) → n ≤ m → m < n + 1 → slice_get d.states m ≡ Some s → next.state ≡ s
    here m s ge lt at =
        let same : n ≡ m = omega (arith, ge, lt) in
        same_Some next.state s (sym next.at ∙ ap (λ k. slice_get d.states k) same ∙ at)

    worked : (m : ℕ) (s : State) → (m < n) ⊎ (n ≤ m) → m < n + 1 → slice_get d.states m ≡ Some s → owner_in count s ≡ i → IsTrue (is_marked d.marks m)
    worked m s (inl less) lt at is = b.worked m s less at is
    worked m s (inr ge) lt at is = absurd (next.other (subst (λ (x : State). owner_in count x ≡ i) (sym (here m s ge lt at)) is))

    held : (m : ℕ) (s : State) → (m < n) ⊎ (n ≤ m) → m < n + 1 → slice_get d.states m ≡ Some s → (owner_in count s ≡ i → ⊥) → IsHeld count domains s
    held m s (inl less) lt at other = b.held m s less at other
    held m s (inr ge) lt at other = subst (IsHeld count domains) (here m s ge lt at) next.held

pub settled_first : (count : ℕ) (domains : List Domain) (i : ℕ) (d : Domain) → IsSettledBelow count domains i d 0 0
settled_first count domains i d = record {
  own = refl;
  worked = λ m s lt at is. absurd (omega (arith, lt));
  held = λ m s lt at other. absurd (omega (arith, lt));
}

-- all states have been gone over, and all of the list
pub settled_whole : (count : ℕ) (domains : List Domain) (i : ℕ) (d : Domain) (n p : ℕ) → IsSettledBelow count domains i d n p → length d.states ≤ n → n ≤ length d.states → p ≡ length d.own → IsSettled count domains i d
settled_whole count domains i d n p b past within all =
    let same : n ≡ length d.states = omega (arith, past, within) in
    record {
      own = sym (take_all p d.own (omega (arith, all))) ∙ b.own ∙ ap (λ k. owned_below count i d.states k) same;
      worked = λ m s at is. b.worked m s (let lt = slice_get_within d.states m s at in omega (arith, lt, past)) at is;
      held = λ m s at other. b.held m s (let lt = slice_get_within d.states m s at in omega (arith, lt, past)) at other;
    }

-- ---- region by region

pub settled_more : (realm : Option Client) (tables : Option Table) (count : ℕ) (domains : List Domain) (from k : ℕ) (d : Domain) → AreSettledBetween realm tables count domains from k → slice_get domains k ≡ Some d
    → IsSettled count domains k d → ((c : Client) → realm ≡ Some c → AllMet c d.states) → IsNumbered d.states → ((c : Client) (t : Table) → realm ≡ Some c → tables ≡ Some t → AreDone c t d.states d.marks)
    → AreSettledBetween realm tables count domains from (k + 1)
settled_more realm tables count domains from k d all here settled met differ done c t i e is also low high at = by (cases_lt i k)
  where
    by : (i < k) ⊎ (k ≤ i) → IsSettled count domains i e × IsKnownRegion c t e
    by (inl less) = all c t i e is also low less at
    by (inr ge) =
        let same : k ≡ i = omega (arith, ge, high) in
        let one : d ≡ e = same_Some d e (sym here ∙ ap (λ n. slice_get domains n) same ∙ at) in
        let this : IsSettled count domains k d × IsKnownRegion c t d = (settled, record { met = met c is; differ = differ; done = done c t is also }) in
        let moved : IsSettled count domains k e × IsKnownRegion c t e = subst (λ (x : Domain). IsSettled count domains k x × IsKnownRegion c t x) one this in
        subst (λ n. IsSettled count domains n e × IsKnownRegion c t e) same moved

pub settled_none : (realm : Option Client) (tables : Option Table) (count : ℕ) (domains : List Domain) (from : ℕ) → AreSettledBetween realm tables count domains from from
settled_none realm tables count domains from c t i d is also low high at = absurd (omega (arith, low, high))

pub settled_both : (realm : Option Client) (tables : Option Table) (count : ℕ) (domains : List Domain) (from middle to : ℕ) → AreSettledBetween realm tables count domains from middle
    → AreSettledBetween realm tables count domains middle to → AreSettledBetween realm tables count domains from to
settled_both realm tables count domains from middle to first second c t i d is also low high at = by (cases_lt i middle)
  where
    by : (i < middle) ⊎ (middle ≤ i) → IsSettled count domains i d × IsKnownRegion c t d
    by (inl less) = first c t i d is also low less at
    by (inr ge) = second c t i d is also ge high at

-- of a whole that is in two
pub settled_joined : (realm : Option Client) (tables : Option Table) (count : ℕ) (domains : List Domain) (from to lcount : ℕ) (left : List Domain) (lfrom lto rcount : ℕ) (right : List Domain) (rfrom rto : ℕ)
    → AreHalvesOf count domains from to lcount left lfrom lto rcount right rfrom rto → AreSettledBetween realm tables lcount left lfrom lto → AreSettledBetween realm tables rcount right rfrom rto
    → AreSettledBetween realm tables count domains from to
settled_joined realm tables count domains from to lcount left lfrom lto rcount right rfrom rto h first second =
    let (a, b, d) = h.left_is in
    let (e, f, g) = h.right_is in
    settled_both realm tables count domains from lto to
    (rw (← a, ← b, ← d) first)
    (rw (← e, ← f, ← g, h.middle) second)

pub all_settled : (realm : Option Client) (tables : Option Table) (c : Client) (t : Table) (count : ℕ) (domains : List Domain) → realm ≡ Some c → tables ≡ Some t
    → AreSettledBetween realm tables count domains 0 (length domains) → AreSettled c t count domains
all_settled realm tables c t count domains is also all i d at = all c t i d is also (omega arith) (slice_get_within domains i d at) at

-- ---- whose states are

pub owners_known : (count : ℕ) (p : Parts) (keys : List Key) (owners : List ℕ) (states : List State) → owners ≡ map (owner_of count) p.histories → states_at p keys ≡ states → AreOwners count owners keys states
owners_known count p keys owners states are same n owner k at here =
    let (h, kept, is) = by_option (owner_of count) (slice_get p.histories k.history) owner (sym (slice_get-map (owner_of count) p.histories k.history) ∙ ap (λ (xs : List ℕ). slice_get xs k.history) (sym are) ∙ here) in
    record {
      state = state_at p k;
      at = ap (λ (xs : List State). slice_get xs n) (sym same) ∙ slice_get-map (state_at p) keys n ∙ ap (option_map (state_at p)) at;
      is = ap (owner_of count) (get_or_from_slice_get p.histories k.history h [] kept) ∙ is;
    }

-- the state with this number is the next one of its own
pub own_next : (count place : ℕ) (owners : List ℕ) (keys : List Key) (d : Domain) (n before o : ℕ) (k : Key) → AreOwners count owners keys d.states → slice_get keys n ≡ Some k → slice_get owners k.history ≡ Some o → o ≡ place
    → slice_get d.own before ≡ Some n → IsTrue (is_marked d.marks n) → IsNextOwn count place d n before
own_next count place owners keys d n before o k known at here same next worked =
    let s = known n o k at here in
    record { state = s.state; at = s.at; is = s.is ∙ same; next = next; worked = worked }

-- it is one of another, which has it
pub held_abroad : (count place : ℕ) (owners : List ℕ) (keys : List Key) (domains : List Domain) (d keeper : Domain) (n o : ℕ) (k : Key) (s : State) → AreOwners count owners keys d.states → slice_get keys n ≡ Some k
    → slice_get owners k.history ≡ Some o → (o ≡ place → ⊥) → slice_get d.states n ≡ Some s → slice_get domains o ≡ Some keeper → (m : ℕ) × (slice_get keeper.states m ≡ Some s) → IsHeldAbroad count domains place d n
held_abroad count place owners keys domains d keeper n o k s known at here other state_at kept (m, there) =
    let t = known n o k at here in
    let owner : owner_in count s ≡ o = ap (owner_in count) (same_Some s t.state (sym state_at ∙ t.at)) ∙ t.is in
    record {
      state = s;
      at = state_at;
      other = λ e. other (sym owner ∙ e);
      held = record { keeper = keeper; keeper_at = ap (slice_get domains) owner ∙ kept; number = m; at = there };
    }
