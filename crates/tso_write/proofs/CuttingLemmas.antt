-- Worked states as valid records, and the trees that are cut of them.
use Rattle.std.proofs.Common.{◌≡◌, ℕ, zero, suc, ◌+◌, ◌*◌, ◌/◌, ◌^◌, ◌<◌, ◌≤◌, Bool, true, false, List, [], ◌∷◌, ◌++◌, length, map, take, drop, get_or, Option, Some, slice_get, refl, sym, ap, subst, take-suc, ◌∙◌, arith}
use Rattle.std.proofs.lemmas.Bool.{eqb-false, eqb-true, false≢true}
use Rattle.std.proofs.lemmas.List.{length-append, take-append-drop, length-take, length-drop}
use Rattle.std.proofs.lemmas.List.Sorted.{All-permutation, Contains-permutation, length_permutation, sorted_far}
use Rattle.std.proofs.lemmas.List.MinMax.{ranks_by}
use Rattle.std.proofs.lemmas.Map.Keys.{IsDistinct-IsPermutation, IsDistinct-from_apart, apart_from_distinct}
use Rattle.std.proofs.lemmas.Option.{none-some, same_Some, slice_get_within, slice_get-get_or, slice_get-map, get_or_from_slice_get}
use Rattle.std.specs.Cmp.{nat_eq_equiv}
use Rattle.std.specs.Cmp.Lexicographic.{options_total}
use Rattle.std.specs.List.{AllByRecursion}
use Rattle.std.specs.Option.{option_cmp, option_map}
use Rattle.std.specs.Ordering.{is_lt, ordering_reverse}
use Rattle.std.specs.Prelude.{All, Contains, IsTrue}
use Rattle.std.specs.declared.cmp.Ordering.{Ordering}
use Rattle.std.specs.declared.cmp.Ordering.TheVariants.{Less, Equal, Greater}
use Rattle.tso_cert.proofs.LookupLemmas.{is_there}
use Rattle.tso_judge.proofs.LeastTables.{same_least}
use Rattle.tso_move.specs.Crossed.{IsMetAfter}
use Rattle.tso_move.specs.Runs.{HasMove}
use Rattle.tso_rec.specs.declared.basis.Grain.{Grain}
use Rattle.tso_rec.specs.declared.basis.Grain.TheVariants as grains
use Rattle.tso_state.proofs.RisingLemmas.{total}
use Rattle.tso_cert.specs.Lookup.{tree_states}
use Rattle.tso_state.specs.Rising.{IsAtMost, IsBelow, IsRising}
use Rattle.tso_cert.specs.Trees.{IsWithin, IsWithinLimits, Tree, fork, leaf, record_count, records_of}
use Rattle.tso_choose.proofs.ChoiceLemmas.{chosen_are_valid}
use Rattle.tso_choose.specs.Choices.{AreChosen, AreReasons, actors_of}
use Rattle.tso_choose.specs.Needs.{is_enabled}
use Rattle.tso_choose.specs.declared.choice.Choice.{Choice}
use Rattle.tso_write.specs.Cutting.{AreChoicesOf, AreNumbers, AreRecordsOf, AreRising, IsCut, IsEndAt, IsEndOf, IsFork, IsHalved, IsRecordOf}
use Rattle.tso_write.specs.Worked.{IsCertificate}
use Rattle.tso_write.specs.Worked.{AreWorkedOut, IsTreeOf}
use Rattle.tso_write.specs.declared.worked.Worked.{Worked}
use Rattle.tso_search.specs.Grounds.{HasLeastTable, IsFirst, IsGround, OwnIsLeast, basis_of, grain_of, table_of}
use Rattle.tso_search.specs.Searched.{AreSearched, IsWorked}
use Rattle.tso_search.specs.declared.ground.Ground.TheVariants.{Steps, Crossings}
use Rattle.tso_foot.proofs.WithinLemmas.{reached_is_within}
use Rattle.tso_foot.specs.declared.table.ArrayTable.{ArrayTable}
use Rattle.tso_foot.specs.declared.table.Table.{Table}
use Rattle.tso_foot.specs.Within.{IsWithin as LiesWithin}
use Rattle.tso_search.specs.declared.ground.Ground.{Ground}
use Rattle.tso_rec.specs.Conditions.{AreFollowed, AreMet, IsOver, MovesAreMet, SuccessorsAreKept}
use Rattle.tso_judge.specs.Valid.{AreValidRecords, HasInitial, IsValidTree}
use Rattle.tso_parts.specs.Numbers.{IsNumbered}
use Rattle.tso_prog.specs.declared.client.Client.{Client}
use Rattle.tso_judge.specs.Certified.{CertificatesFit, ForksAreFirsts, IsBare, IsReachedRecord}
use Rattle.tso_rec.proofs.KeptLemmas.{same_state}
use Rattle.tso_rec.specs.Keeping.{record_of}
use Rattle.tso_rec.specs.Records.{states_of}
use Rattle.tso_rec.specs.declared.kept.Kept.{Kept}
use Rattle.tso_rec.specs.declared.record.End.{End}
use Rattle.tso_rec.specs.declared.record.End.TheVariants.{Choices, Order}
use Rattle.tso_rec.specs.declared.record.Record.{Record}
use Rattle.tso_state.specs.Order.{state_cmp}
use Rattle.tso_state.specs.WellFormed.{IsWellFormed}
use Rattle.tso_state.specs.declared.actor.Actor.{Actor}
use Rattle.tso_state.specs.declared.state.State.{State}
use Rattle.tso_parts.proofs.Marked.{found_or_not, new_item, old_item}
use Rattle.tso_keys.proofs.Ranked.{length_below}
use Rattle.tso_keys.specs.Orders as orders
use Rattle.tso_keys.specs.Orders.{numbers_below}
use lib.Dec.{eqb}

-- ---- lists

all_of : {X : Type 0} (P : X → Type 0) (xs : List X) → ((k : ℕ) (x : X) → slice_get xs k ≡ Some x → P x) → All P xs
all_of P xs each k d lt = each k (get_or xs k d) (slice_get-get_or xs k d lt)

one_of : {X : Type 0} (P : X → Type 0) (xs : List X) (k : ℕ) (x : X) → All P xs → slice_get xs k ≡ Some x → P x
one_of P xs k x all at = subst P (get_or_from_slice_get xs k x x at) (all k x (slice_get_within xs k x at))

each_by : (P : State → Type 0) (xs : List State) → ((k : ℕ) (x : State) → slice_get xs k ≡ Some x → P x) → AllByRecursion P xs
each_by P [] each = tt
each_by P (x ∷ xs) each = (each 0 x refl, each_by P xs (λ k y at. each (suc k) y at))

-- an item of two lists is one of the first, or of the second
pub got_either : {X C : Type 0} (xs ys : List X) (k : ℕ) (x : X) → slice_get (xs ++ ys) k ≡ Some x → (slice_get xs k ≡ Some x → C) → ((j : ℕ) → k ≡ length xs + j → slice_get ys j ≡ Some x → C) → C
got_either [] ys k x e first second = second k (omega arith) e
got_either (y ∷ xs) ys zero x e first second = first e
got_either (y ∷ xs) ys (suc k) x e first second = got_either xs ys k x e first (λ j is at. second j (omega (arith, is)) at)

-- there is an item at each place
pub got : {X C : Type 0} (xs : List X) (k : ℕ) → k < length xs → ((x : X) → slice_get xs k ≡ Some x → C) → C
got [] k lt f = absurd (omega (arith, lt))
got (x ∷ xs) zero lt f = f x refl
got (x ∷ xs) (suc k) lt f = got xs k (omega (arith, lt)) f

pub from_drop : {X : Type 0} (h : ℕ) (xs : List X) (k : ℕ) (x : X) → slice_get (drop h xs) k ≡ Some x → slice_get xs (h + k) ≡ Some x
from_drop zero xs k x e = ap (slice_get xs) (let z : 0 + k ≡ k = omega arith in z) ∙ e
from_drop (suc h) [] k x e = absurd (none-some x e)
from_drop (suc h) (y ∷ xs) k x e = ap (slice_get (y ∷ xs)) (let z : suc h + k ≡ suc (h + k) = omega arith in z) ∙ from_drop h xs k x e

pub from_take : {X : Type 0} (h : ℕ) (xs : List X) (k : ℕ) (x : X) → slice_get (take h xs) k ≡ Some x → slice_get xs k ≡ Some x
from_take zero xs k x e = absurd (none-some x e)
from_take (suc h) [] k x e = absurd (none-some x e)
from_take (suc h) (y ∷ xs) zero x e = e
from_take (suc h) (y ∷ xs) (suc k) x e = from_take h xs k x e

-- the record whose state this is
mapped : {X Y C : Type 0} (f : X → Y) (xs : List X) (k : ℕ) (y : Y) → slice_get (map f xs) k ≡ Some y → ((x : X) → slice_get xs k ≡ Some x → f x ≡ y → C) → C
mapped f [] k y e g = absurd (none-some y e)
mapped f (x ∷ xs) zero y e g = g x refl (same_Some (f x) y e)
mapped f (x ∷ xs) (suc k) y e g = mapped f xs k y e g

mapped_at : {X Y : Type 0} (f : X → Y) (xs : List X) (k : ℕ) (x : X) → slice_get xs k ≡ Some x → slice_get (map f xs) k ≡ Some (f x)
mapped_at f [] k x e = absurd (none-some x e)
mapped_at f (y ∷ xs) zero x e = ap (λ z. Some (f z)) (same_Some y x e)
mapped_at f (y ∷ xs) (suc k) x e = mapped_at f xs k x e

-- ---- one record

-- where nothing is chosen no actor has a step
pub none_over : (c : Client) (t : Table) (s : State) (choices : List Choice) → IsWellFormed c s → AreChosen c t s choices → length choices ≡ 0 → IsOver c s
none_over c t s choices w chosen none a = by_case (is_enabled c s a) refl
  where
    by_case : (b : Bool) → is_enabled c s a ≡ b → b ≡ false
    by_case false e = refl
    by_case true e = absurd (let some = (chosen_are_valid c t s choices w chosen).some a e in omega (arith, none, some))

-- a worked state with its end is a valid record
with_choices : (c : Client) (g : Ground) (states : List State) (s : State) (choices : List Choice) → OwnIsLeast c g → IsWellFormed c s → IsWorked c g states s → LiesWithin (table_of g) s → AreChoicesOf c g s choices
    → AreMet c (basis_of g) (SuccessorsAreKept c (basis_of g) states s (Choices choices)) (LiesWithin (table_of g) s) s (Choices choices)
with_choices c (Steps t) states s choices least w worked within (chosen, some) =
    let valid = chosen_are_valid c t s choices w chosen in
    record {
      well_formed = w;
      fits = record { some = some; rising = valid.rising; enabled = all_of (λ (x : Choice). IsTrue (is_enabled c s x.actor)) choices valid.enabled };
      reasons = all_of (λ (x : Choice). AreReasons c t s (actors_of choices) x.actor x.reasons) choices valid.reasons;
      successors = worked.kept.moves choices chosen;
      unstopped = tt;
      explained = tt;
      within = within;
    }
with_choices c (Crossings own t) states s choices least w worked within (none, some) =
    record { well_formed = w; fits = some; reasons = tt; successors = all_met; unstopped = tt; explained = tt; within = within }
  where
    all_met : MovesAreMet c t states s
    all_met other other_least a has =
        let same : own ≡ other = same_least c own other least other_least in
        subst (λ (o : ArrayTable). HasMove c o s a → IsMetAfter c o t states s a) same (worked.kept a) has

valid_end : (c : Client) (g : Ground) (states : List State) (s : State) (e : End) → OwnIsLeast c g → IsWellFormed c s → IsWorked c g states s → LiesWithin (table_of g) s → IsEndOf c g s e
    → AreMet c (basis_of g) (SuccessorsAreKept c (basis_of g) states s e) (LiesWithin (table_of g) s) s e
valid_end c g states s (Choices choices) least w worked within chosen = with_choices c g states s choices least w worked within chosen
valid_end c g states s (Order order) least w worked within (over, explained) =
    record { well_formed = w; fits = over; reasons = tt; successors = tt; unstopped = worked.unstopped over; explained = explained; within = within }

pub searched_well_formed : (c : Client) (g : Ground) (states : List State) (n : ℕ) (s : State) → AreSearched c g states → slice_get states n ≡ Some s → IsWellFormed c s
searched_well_formed c g states n s searched at = (searched.begun.met n s at).plausible.well_formed

pub searched_worked : (c : Client) (g : Ground) (states : List State) (n : ℕ) (s : State) → AreSearched c g states → slice_get states n ≡ Some s → IsWorked c g states s
searched_worked c g states n s searched at = searched.worked n s at

-- what ends a state that has this number
pub end_of_state : (c : Client) (g : Ground) (states : List State) (n : ℕ) (s : State) (e : End) → slice_get states n ≡ Some s → IsEndOf c g s e → IsEndAt c g states n e
end_of_state c g states n s e at ends u there = subst (λ (x : State). IsEndOf c g x e) (same_Some s u (sym at ∙ there)) ends

pub searched_within : (c : Client) (g : Ground) (states : List State) (n : ℕ) (s : State) → AreSearched c g states → IsGround c g → slice_get states n ≡ Some s → LiesWithin (table_of g) s
searched_within c g states n s searched closed at = let met = searched.begun.met n s at in reached_is_within c (table_of g) s met.reached.0 closed.closed met.reached.1

-- at a crossing it has no choices
bare_end : (c : Client) (s : State) (g : Ground) (e : End) → IsEndOf c g s e → IsBare (grain_of g) e
bare_end c s (Steps t) e ends = tt
bare_end c s (Crossings own t) (Choices choices) ends = ends.0
bare_end c s (Crossings own t) (Order order) ends = tt

pub worked_record : (c : Client) (g : Ground) (states : List State) (n : ℕ) (s : State) (e : End) → AreSearched c g states → IsGround c g → slice_get states n ≡ Some s → IsEndOf c g s e → IsRecordOf c g states n (record { state = s; end = e })
worked_record c g states n s e searched closed at ends = record {
  at = at;
  valid = valid_end c g states s e closed.own (searched_well_formed c g states n s searched at) (searched_worked c g states n s searched at) (searched_within c g states n s searched closed at) ends;
  bare = bare_end c s g e ends;
}

-- ---- the record that a recorder makes of a state

abbrev pub with_end : End → State → Record
with_end e s = record { state = s; end = e }

pub recorded : (k : Kept) (states all : List State) (n : ℕ) (s : State) (e f : End) → all ≡ states → Some (record_of k) ≡ option_map (with_end e) (slice_get all n) → slice_get states n ≡ Some s → e ≡ f → record_of k ≡ with_end f s
recorded k states all n s e f same is at ends =
    same_Some (record_of k) (with_end e s) (is ∙ ap (λ (us : List State). option_map (with_end e) (slice_get us n)) same ∙ ap (option_map (with_end e)) at)
    ∙ ap (λ (end : End). with_end end s) ends

-- the record of a worked state that a recorder makes with its end
pub record_made : (c : Client) (g : Ground) (states all : List State) (n : ℕ) (k : Kept) (e f : End) (found : Option Kept) → AreSearched c g states → IsGround c g → n < length states → all ≡ states → IsEndAt c g states n f → e ≡ f → found ≡ Some k
    → option_map record_of found ≡ option_map (with_end e) (slice_get all n) → IsRecordOf c g states n (record_of k)
record_made c g states all n k e f found searched closed there same ends shared is made =
    let s : State = get_or states n (record { memory = []; threads = []; history = [] }) in
    let at : slice_get states n ≡ Some s = slice_get-get_or states n _ there in
    let whole : record_of k ≡ with_end f s = recorded k states all n s e f same (sym (ap (option_map record_of) is) ∙ made) at shared in
    subst (IsRecordOf c g states n) (sym whole) (worked_record c g states n s f searched closed at (ends s at))

-- ---- records of numbers

pub no_records : (c : Client) (g : Ground) (states : List State) → AreRecordsOf c g states [] []
no_records c g states = record { count = refl; each = λ k n r at there. absurd (none-some n at) }

pub both_records : (c : Client) (g : Ground) (states : List State) (ns ms : List ℕ) (rs us : List Record) → AreRecordsOf c g states ns rs → AreRecordsOf c g states ms us → AreRecordsOf c g states (ns ++ ms) (rs ++ us)
both_records c g states ns ms rs us first second = record {
  count = length-append rs us ∙ (λ i. first.count i + second.count i) ∙ sym (length-append ns ms);
  each = λ k n r at there. got_either ns ms k n at
      (λ here. got_either rs us k r there
      (λ e. first.each k n r here e)
      (λ j is e. let lt = slice_get_within ns k n here in let same = first.count in absurd (omega (arith, lt, is, same))))
      (λ i is here. got_either rs us k r there
      (λ e. let lt = slice_get_within rs k r e in let same = first.count in absurd (omega (arith, lt, is, same)))
      (λ j js e.
      let same = first.count in
      let one : j ≡ i = omega (arith, is, js, same) in
      second.each i n r here (ap (slice_get us) (sym one) ∙ e)));
}

pub more_records : (c : Client) (g : Ground) (states : List State) (ns : List ℕ) (rs : List Record) (n : ℕ) (r : Record) → AreRecordsOf c g states ns rs → IsRecordOf c g states n r → AreRecordsOf c g states (ns ++ n ∷ []) (rs ++ r ∷ [])
more_records c g states ns rs n r all one = both_records c g states ns (n ∷ []) rs (r ∷ []) all (record { count = refl; each = only })
  where
    only : (k m : ℕ) (u : Record) → slice_get (n ∷ []) k ≡ Some m → slice_get (r ∷ []) k ≡ Some u → IsRecordOf c g states m u
    only zero m u at there =
        let P : ℕ → Type 0 = λ x. IsRecordOf c g states x u in
        let Q : Record → Type 0 = λ x. IsRecordOf c g states n x in
        subst P (same_Some n m at) (subst Q (same_Some r u there) one)
    only (suc k) m u at there = absurd (none-some m at)

-- one more record of a leaf
pub leaf_more : (c : Client) (g : Ground) (states : List State) (ns : List ℕ) (k : ℕ) (rs after : List Record) (r : Record) → AreRecordsOf c g states (take k ns) rs → k < length ns
    → IsRecordOf c g states (get_or ns k 0) r → after ≡ rs ++ r ∷ [] → AreRecordsOf c g states (take (k + 1) ns) after
leaf_more c g states ns k rs after r all lt one is =
    let next : take (k + 1) ns ≡ take k ns ++ get_or ns k 0 ∷ [] = ap (λ j. take j ns) (let e : k + 1 ≡ suc k = omega arith in e) ∙ take-suc ns k 0 lt in
    let P : List ℕ → Type 0 = λ l. AreRecordsOf c g states l after in
    let Q : List Record → Type 0 = λ l. AreRecordsOf c g states (take k ns ++ get_or ns k 0 ∷ []) l in
    subst P (sym next) (subst Q (sym is) (more_records c g states (take k ns) rs (get_or ns k 0) r all one))

-- the number of a record's state
numbered_state : {C : Type 0} (c : Client) (g : Ground) (states : List State) (ns : List ℕ) (rs : List Record) (k : ℕ) (x : State) → AreRecordsOf c g states ns rs → slice_get (states_of rs) k ≡ Some x
    → ((n : ℕ) → slice_get ns k ≡ Some n → slice_get states n ≡ Some x → C) → C
numbered_state c g states ns rs k x all at f = mapped (λ (r : Record). r.state) rs k x at (λ r there is.
    let lt = slice_get_within rs k r there in
    let count = all.count in
    got ns k (omega (arith, lt, count)) (λ n here. f n here ((all.each k n r here there).at ∙ ap Some is)))

-- ---- trees

not_itself : (x : State) → IsBelow x x → ⊥
not_itself x below =
    let clash : Less ≡ Greater = sym below ∙ total.antisymm x x ∙ ap ordering_reverse below in
    cc

below_once : (x y : State) → IsBelow x y → IsBelow y x → ⊥
below_once x y a b = not_itself x (total.trans x y x a b)

pub leaf_cut : (c : Client) (g : Ground) (states : List State) (ns : List ℕ) (rs : List Record) → length ns ≤ 64 → AreRecordsOf c g states ns rs → IsCut c g states ns (leaf rs)
leaf_cut c g states ns rs few all = record { records = all; forks = tt; halved = (let count = all.count in omega (arith, few, count)); within = within }
  where
    within : (depth : ℕ) → length ns ≤ 64 * 2 ^ depth → IsWithin depth (leaf rs)
    within zero le = let count = all.count in omega (arith, few, count)
    within (suc depth) le = let count = all.count in omega (arith, few, count)

numbers_take : (states : List State) (h : ℕ) (ns : List ℕ) → AreNumbers states ns → AreNumbers states (take h ns)
numbers_take states h ns all k n at = all k n (from_take h ns k n at)

numbers_drop : (states : List State) (h : ℕ) (ns : List ℕ) → AreNumbers states ns → AreNumbers states (drop h ns)
numbers_drop states h ns all k n at = all (h + k) n (from_drop h ns k n at)

rising_take : (states : List State) (h : ℕ) (ns : List ℕ) → AreRising states ns → AreRising states (take h ns)
rising_take states h ns up i j n m s u lt a b = up i j n m s u lt (from_take h ns i n a) (from_take h ns j m b)

rising_drop : (states : List State) (h : ℕ) (ns : List ℕ) → AreRising states ns → AreRising states (drop h ns)
rising_drop states h ns up i j n m s u lt a b = up (h + i) (h + j) n m s u (omega (arith, lt)) (from_drop h ns i n a) (from_drop h ns j m b)

pub numbers_low : (states : List State) (ns low : List ℕ) (h : ℕ) → low ≡ take h ns → AreNumbers states ns → AreNumbers states low
numbers_low states ns low h is all = let P : List ℕ → Type 0 = AreNumbers states in subst P (sym is) (numbers_take states h ns all)

pub rising_low : (states : List State) (ns low : List ℕ) (h : ℕ) → low ≡ take h ns → AreRising states ns → AreRising states low
rising_low states ns low h is up = let P : List ℕ → Type 0 = AreRising states in subst P (sym is) (rising_take states h ns up)

pub numbers_high : (states : List State) (ns high : List ℕ) (h : ℕ) → high ≡ drop h ns → AreNumbers states ns → AreNumbers states high
numbers_high states ns high h is all = let P : List ℕ → Type 0 = AreNumbers states in subst P (sym is) (numbers_drop states h ns all)

pub rising_high : (states : List State) (ns high : List ℕ) (h : ℕ) → high ≡ drop h ns → AreRising states ns → AreRising states high
rising_high states ns high h is up = let P : List ℕ → Type 0 = AreRising states in subst P (sym is) (rising_drop states h ns up)

module _ (c : Client) (g : Ground) (states : List State) (ns : List ℕ) (h n : ℕ) (s : State) (up : AreRising states ns) (first : slice_get (drop h ns) 0 ≡ Some n) (at : slice_get states n ≡ Some s) where
  left_below : (left : Tree) → AreRecordsOf c g states (take h ns) (records_of left) → h ≤ length ns → AllByRecursion (λ x. IsBelow x s) (tree_states left)
  left_below left all le = each_by (λ x. IsBelow x s) (tree_states left) (λ k x there. numbered_state c g states (take h ns) (records_of left) k x all there (λ m here is.
      let lt = slice_get_within (take h ns) k m here in
      let long = length-take h ns in
      up k (h + 0) m n x s (omega (arith, lt, long, le)) (from_take h ns k m here) (from_drop h ns 0 n first) is at))

  right_above : (right : Tree) → AreRecordsOf c g states (drop h ns) (records_of right) → AllByRecursion (λ x. IsAtMost s x) (tree_states right)
  right_above right all = each_by (λ x. IsAtMost s x) (tree_states right) (λ k x there. numbered_state c g states (drop h ns) (records_of right) k x all there (λ m here is below. go k x m here is below))
    where
      go : (k : ℕ) (x : State) (m : ℕ) → slice_get (drop h ns) k ≡ Some m → slice_get states m ≡ Some x → IsBelow x s → ⊥
      go zero x m here is below =
          let one : m ≡ n = same_Some m n (sym here ∙ first) in
          let same : x ≡ s = same_Some x s (sym is ∙ ap (slice_get states) one ∙ at) in
          let P : State → Type 0 = λ y. IsBelow y s in
          not_itself s (subst P same below)
      go (suc k) x m here is below = below_once x s below (up (h + 0) (h + suc k) n m s x (omega arith) (from_drop h ns 0 n first) (from_drop h ns (suc k) m here) at is)

two_to : (depth : ℕ) → 2 ^ suc depth ≡ 2 * 2 ^ depth
two_to depth = omega arith

counted : (tree : Tree) → record_count tree ≡ length (records_of tree)
counted (leaf rs) = refl
counted (fork left s right) = (λ i. counted left i + counted right i) ∙ sym (length-append (records_of left) (records_of right))

first_record : (xs : List Record) → 0 < length xs → (r : Record) × (slice_get xs 0 ≡ Some r)
first_record [] lt = absurd (omega (arith, lt))
first_record (r ∷ rs) lt = (r, refl)

-- the first state of the right half
first_state : (c : Client) (g : Ground) (states : List State) (ns : List ℕ) (n : ℕ) (s : State) (right : Tree) → AreRecordsOf c g states ns (records_of right) → slice_get ns 0 ≡ Some n
    → slice_get states n ≡ Some s → slice_get (tree_states right) 0 ≡ Some s
first_state c g states ns n s right all first at =
    let some = slice_get_within ns 0 n first in
    let count = all.count in
    let (r, here) = first_record (records_of right) (omega (arith, some, count)) in
    let of = all.each 0 n r first here in
    let same : r.state ≡ s = same_Some r.state s (sym of.at ∙ at) in
    slice_get-map (λ (x : Record). x.state) (records_of right) 0 ∙ ap (option_map (λ (x : Record). x.state)) here ∙ ap Some same

fork_cut : (c : Client) (g : Ground) (states : List State) (ns : List ℕ) (h n : ℕ) (s : State) (left right : Tree) → 64 < length ns → h ≡ length ns / 2 → AreRising states ns
    → IsCut c g states (take h ns) left → IsCut c g states (drop h ns) right → slice_get (drop h ns) 0 ≡ Some n → slice_get states n ≡ Some s → IsCut c g states ns (fork left s right)
fork_cut c g states ns h n s left right many half up low high first at = record {
  records =
      let P : List ℕ → Type 0 = λ l. AreRecordsOf c g states l (records_of left ++ records_of right) in
      subst P (take-append-drop h ns) (both_records c g states (take h ns) (drop h ns) (records_of left) (records_of right) low.records high.records);
  forks = (low.forks, high.forks, left_below c g states ns h n s up first at left low.records (omega (arith, half)), right_above c g states ns h n s up first at right high.records);
  halved = (halves, low.halved, high.halved);
  within = within;
}
  where
    halves : IsFork left s right
    halves =
        let first_count = counted left ∙ low.records.count ∙ length-take h ns in
        let other_count = counted right ∙ high.records.count ∙ length-drop h ns in
        record {
          many = omega (arith, many, half, first_count, other_count);
          half = omega (arith, many, half, first_count, other_count);
          first = first_state c g states (drop h ns) n s right high.records first at;
        }

    within : (depth : ℕ) → length ns ≤ 64 * 2 ^ depth → IsWithin depth (fork left s right)
    within zero le = absurd (omega (arith, le, many))
    within (suc depth) le =
        let two = two_to depth in
        let short = length-take h ns in
        let long = length-drop h ns in
        (low.within depth (omega (arith, le, two, short, half)), high.within depth (omega (arith, le, two, long, half)))

-- the right half has a first state
first_item : (ns high : List ℕ) (h : ℕ) → high ≡ drop h ns → 64 < length ns → h ≡ length ns / 2 → slice_get high 0 ≡ Some (get_or high 0 0)
first_item ns high h is many half =
    let long : length high ≡ length (drop h ns) = ap length is in
    let rest = length-drop h ns in
    slice_get-get_or high 0 0 (omega (arith, long, rest, many, half))

pub first_high : (states : List State) (ns high : List ℕ) (h : ℕ) → high ≡ drop h ns → 64 < length ns → h ≡ length ns / 2 → AreNumbers states ns → get_or high 0 0 < length states
first_high states ns high h is many half all = numbers_high states ns high h is all 0 (get_or high 0 0) (first_item ns high h is many half)

pub forked : (c : Client) (g : Ground) (states : List State) (ns low high : List ℕ) (h : ℕ) (s : State) (left right : Tree) → low ≡ take h ns → high ≡ drop h ns → 64 < length ns → h ≡ length ns / 2 → AreRising states ns
    → IsCut c g states low left → IsCut c g states high right → slice_get states (get_or high 0 0) ≡ Some s → IsCut c g states ns (fork left s right)
forked c g states ns low high h s left right front back many half up first second at =
    let P : List ℕ → Type 0 = λ l. IsCut c g states l left in
    let Q : List ℕ → Type 0 = λ l. IsCut c g states l right in
    fork_cut c g states ns h (get_or high 0 0) s left right many half up (subst P front first) (subst Q back second) (ap (λ l. slice_get l 0) (sym back) ∙ first_item ns high h back many half) at

-- ---- the numbers of all states

own_place : (n k : ℕ) → k < n → slice_get (numbers_below n) k ≡ Some k
own_place zero k less = absurd (omega (arith, less))
own_place (suc n) k less = found_or_not k n (omega (arith, less))
    (λ e. ap (slice_get (numbers_below n ++ n ∷ [])) (e ∙ sym (length_below n)) ∙ new_item (numbers_below n) n ∙ ap Some (sym e))
    (λ l. old_item (numbers_below n) n k k (own_place n k l))

-- as many as states
count_of : (states : List State) (ns : List ℕ) → orders.IsRising states ns → length ns ≡ length states
count_of states ns all = length_permutation (numbers_below (length states)) ns all.all ∙ length_below (length states)

pub all_numbers : (states : List State) (ns : List ℕ) → orders.IsRising states ns → AreNumbers states ns
all_numbers states ns all k n at =
    one_of (λ m. m < length states) ns k n
    (All-permutation (λ m. m < length states) (numbers_below (length states)) ns all.all (all_of (λ m. m < length states) (numbers_below (length states)) (λ i m there.
    let lt = slice_get_within (numbers_below (length states)) i m there in
    let long = length_below (length states) in
    let place = own_place (length states) i (omega (arith, lt, long)) in
    let same : i ≡ m = same_Some i m (sym place ∙ there) in
    omega (arith, lt, long, same)))) at

apart_numbers : (k l : ℕ) → k < l → eqb k l ≡ false
apart_numbers k l less = by_case (eqb k l) refl
  where
    by_case : (b : Bool) → eqb k l ≡ b → eqb k l ≡ false
    by_case true e = absurd (let same = eqb-true k l e in omega (arith, same, less))
    by_case false e = e

-- each number stands once
once : (states : List State) (ns : List ℕ) (i j n : ℕ) → orders.IsRising states ns → i < j → slice_get ns i ≡ Some n → slice_get ns j ≡ Some n → ⊥
once states ns i j n all lt a b =
    let first = IsDistinct-from_apart eqb (numbers_below (length states)) apart in
    let far = apart_from_distinct eqb ns i j n (IsDistinct-IsPermutation eqb nat_eq_equiv.symm (numbers_below (length states)) ns all.all first) lt (slice_get_within ns j n b) in
    eqb-false (get_or ns i n) (get_or ns j n) far (get_or_from_slice_get ns i n n a ∙ sym (get_or_from_slice_get ns j n n b))
  where
    apart : (k l d : ℕ) → k < l → l < length (numbers_below (length states)) → eqb (get_or (numbers_below (length states)) k d) (get_or (numbers_below (length states)) l d) ≡ false
    apart k l d less inside =
        let long = length_below (length states) in
        let first = get_or_from_slice_get (numbers_below (length states)) k k d (own_place (length states) k (omega (arith, less, inside, long))) in
        let second = get_or_from_slice_get (numbers_below (length states)) l l d (own_place (length states) l (omega (arith, inside, long))) in
        (λ i. eqb (first i) (second i)) ∙ apart_numbers k l less

-- they rise strictly, since states with different numbers differ
pub strictly_rising : (states : List State) (ns : List ℕ) → orders.IsRising states ns → IsNumbered states → AreRising states ns
strictly_rising states ns all differ i j n m s u lt a b at_n at_m = by_case (state_cmp s u) refl
  where
    not_less : is_lt (state_cmp u s) ≡ false
    not_less =
        let far = sorted_far (λ x y. is_lt (option_cmp state_cmp (slice_get states x) (slice_get states y))) (ranks_by (options_total total) (slice_get states)) ns all.rising i j 0 (omega (arith, lt)) (slice_get_within ns j m b) in
        let first = get_or_from_slice_get ns i n 0 a in
        let second = get_or_from_slice_get ns j m 0 b in
        (λ k. is_lt (option_cmp state_cmp (sym at_m k) (sym at_n k))) ∙ (λ k. is_lt (option_cmp state_cmp (slice_get states (sym second k)) (slice_get states (sym first k)))) ∙ far

    by_case : (o : Ordering) → state_cmp s u ≡ o → state_cmp s u ≡ Less
    by_case Less e = e
    by_case Equal e =
        let same : s ≡ u = (same_state s u Equal (sym e)).0 refl in
        let one : n ≡ m = differ n m s at_n (at_m ∙ ap Some (sym same)) in
        absurd (once states ns i j n all lt a (b ∙ ap Some (sym one)))
    by_case Greater e = absurd (false≢true (sym not_less ∙ ap is_lt (total.antisymm u s ∙ ap ordering_reverse e)))

-- ---- the whole

-- where a search begins
first_there : (c : Client) (among : List State) (g : Ground) → OwnIsLeast c g → (s : State) → IsFirst c g s → Contains among s → HasInitial c (basis_of g) among
first_there c among (Steps t) least s first there = record { initial = s; first = first; there = there }
first_there c among (Crossings own t) least s first there =
    record { own = own; least = least; initial = first.initial; first = first.initial_is; met = record { stop = s; run = first.run; there = there } }

rising_from : (xs : List State) → ((i j : ℕ) (x y : State) → i < j → slice_get xs i ≡ Some x → slice_get xs j ≡ Some y → IsBelow x y) → IsRising xs
rising_from [] up = tt
rising_from (x ∷ xs) up = (each_by (λ y. IsBelow x y) xs (λ k y at. up 0 (suc k) x y (omega arith) refl at), rising_from xs (λ i j a b lt e f. up (suc i) (suc j) a b (omega (arith, lt)) e f))

module _ (c : Client) (g : Ground) (states : List State) (ns : List ℕ) (tree : Tree) (all : orders.IsRising states ns) (differ : IsNumbered states) (cut : IsCut c g states ns tree) where
  tree_rises : IsRising (tree_states tree)
  tree_rises = rising_from (tree_states tree) (λ i j x y lt a b.
      numbered_state c g states ns (records_of tree) i x cut.records a (λ n here at_n.
      numbered_state c g states ns (records_of tree) j y cut.records b (λ m there at_m.
      strictly_rising states ns all differ i j n m x y lt here there at_n at_m)))

  -- each state has a record
  kept : (x : State) → Contains states x → Contains (tree_states tree) x
  kept x (n, lt, is) =
      let at : slice_get states n ≡ Some x = slice_get-get_or states n x lt ∙ ap Some is in
      let long = length_below (length states) in
      let below : Contains (numbers_below (length states)) n = (n, omega (arith, lt, long), get_or_from_slice_get (numbers_below (length states)) n n n (own_place (length states) n lt)) in
      let (k, inside, same) = Contains-permutation (numbers_below (length states)) ns n all.all below in
      let here : slice_get ns k ≡ Some n = slice_get-get_or ns k n inside ∙ ap Some same in
      let count = cut.records.count in
      got (records_of tree) k (omega (arith, inside, count)) (λ r there.
      let state : slice_get states n ≡ Some r.state = (cut.records.each k n r here there).at in
      is_there (tree_states tree) x k (mapped_at (λ (y : Record). y.state) (records_of tree) k r there ∙ sym state ∙ at))

  met_there : (own : ArrayTable) (t : Table) (s : State) (a : Actor) → IsMetAfter c own t states s a → IsMetAfter c own t (tree_states tree) s a
  met_there own t s a m = record { after = m.after; move = m.move; met = record { stop = m.met.stop; run = m.met.run; there = kept m.met.stop m.met.there } }

  followed_there : (grain : Grain) (t : Table) (s : State) (choices : List Choice) → AreFollowed c grain t states s choices → AreFollowed c grain t (tree_states tree) s choices
  followed_there grains.Steps t s choices all_kept = λ k d lt. let one = all_kept k d lt in record { after = one.after; step = one.step; kept = kept one.after one.kept }
  followed_there grains.Crossings t s choices all_met = λ own least a has. met_there own t s a (all_met own least a has)

  kept_after : (s : State) (e : End) → SuccessorsAreKept c (basis_of g) states s e → SuccessorsAreKept c (basis_of g) (tree_states tree) s e
  kept_after s (Choices choices) all_kept = followed_there (grain_of g) (table_of g) s choices all_kept
  kept_after s (Order order) all_kept = tt

  valid_records : AreValidRecords c (basis_of g) (tree_states tree) (records_of tree)
  valid_records k r there =
      let lt = slice_get_within (records_of tree) k r there in
      let count = cut.records.count in
      got ns k (omega (arith, lt, count)) (λ n here.
      let met = (cut.records.each k n r here there).valid in
      record { well_formed = met.well_formed; fits = met.fits; reasons = met.reasons; successors = kept_after r.state r.end met.successors; unstopped = met.unstopped; explained = met.explained; within = met.within })

  has_initial : AreSearched c g states → OwnIsLeast c g → HasInitial c (basis_of g) (tree_states tree)
  has_initial searched least = first_there c (tree_states tree) g least searched.begun.initial searched.begun.initial_is (kept searched.begun.initial (is_there states searched.begun.initial 0 searched.begun.initial_at))

  few_records : record_count tree ≡ length states
  few_records = counted tree ∙ cut.records.count ∙ count_of states ns all

  within_limits : length states ≤ 4194304 → IsWithinLimits tree
  within_limits few =
      let many = count_of states ns all in
      let count = few_records in
      (cut.within 64 (omega (arith, few, many)), omega (arith, few, count))

  -- each record is of a state that steps reach
  reached_records : AreSearched c g states → (k : ℕ) (r : Record) → slice_get (records_of tree) k ≡ Some r → IsReachedRecord c (basis_of g) states r
  reached_records searched k r there =
      let lt = slice_get_within (records_of tree) k r there in
      let count = cut.records.count in
      got ns k (omega (arith, lt, count)) (λ n here.
      let known = cut.records.each k n r here there in
      let met = searched.begun.met n r.state known.at in
      record { valid = known.valid; bare = known.bare; actors = met.reached.0; steps = met.reached.1 })

firsts : (tree : Tree) → IsHalved tree → ForksAreFirsts tree
firsts (leaf records) h = tt
firsts (fork left s right) h = (h.0.first, firsts left h.1, firsts right h.2)

-- the table and the tree are a valid certificate, and so is their spelling
pub certificate_is_valid : (c : Client) (limit : ℕ) (g : Ground) (states : List State) (ns : List ℕ) (tree : Tree) → AreSearched c g states → IsGround c g → HasLeastTable c g → orders.IsRising states ns → IsNumbered states
    → IsCut c g states ns tree → length states ≤ limit → limit ≤ 4194304 → CertificatesFit c → IsCertificate c limit g tree
certificate_is_valid c limit g states ns tree searched closed least all differ cut few small fit =
    let count = few_records c g states ns tree all differ cut in
    let within = within_limits c g states ns tree all differ cut (omega (arith, few, small)) in
    let valid : IsValidTree c (basis_of g) tree = record {
      ordered = (tree_rises c g states ns tree all differ cut, cut.forks);
      closed = closed.closed;
      initial = has_initial c g states ns tree all differ cut searched closed.own;
      records = valid_records c g states ns tree all differ cut;
    } in
    let fits = fit (basis_of g) tree states closed.closed closed.fits within.0 (firsts tree cut.halved) (reached_records c g states ns tree all differ cut searched) in
    record {
      valid = valid;
      least = least;
      within = within;
      fits = fits;
      few = omega (arith, few, count);
      halved = cut.halved;
      bytes = record { basis = basis_of g; tree = tree; spelled = (fits, refl); within = within; valid = valid };
    }

-- ---- what is made of worked states

-- within a limit, and so within a greater one
pub wider : (c : Client) (n limit : ℕ) (g : Ground) (tree : Tree) → n ≤ limit → IsCertificate c n g tree → IsCertificate c limit g tree
wider c n limit g tree le v = record { valid = v.valid; least = v.least; within = v.within; fits = v.fits; few = (let few = v.few in omega (arith, few, le)); halved = v.halved; bytes = v.bytes }

-- the states of a tree that is cut of states are some of these
tree_has : (c : Client) (g : Ground) (states : List State) (ns : List ℕ) (tree : Tree) → IsCut c g states ns tree → (k : ℕ) (s : State) → slice_get (tree_states tree) k ≡ Some s → (n : ℕ) × (slice_get states n ≡ Some s)
tree_has c g states ns tree cut k s at = numbered_state c g states ns (records_of tree) k s cut.records at (λ n here there. (n, there))

pub tree_of_worked : (c : Client) (w : Worked) (ns : List ℕ) (tree : Tree) → AreWorkedOut c w → orders.IsRising w.store.states ns → IsNumbered w.store.states → CertificatesFit c → IsCut c w.ground w.store.states ns tree
    → IsTreeOf c w tree
tree_of_worked c w ns tree out rising differ fit cut = record {
  good = certificate_is_valid c (length w.store.states) w.ground w.store.states ns tree out.searched out.closed out.least rising differ cut (omega arith) out.few fit;
  count = few_records c w.ground w.store.states ns tree rising differ cut;
  states = tree_has c w.ground w.store.states ns tree cut;
}
