-- Numbers in the order of their states.
use Rattle.std.proofs.Common.{◌≡◌, ℕ, Bool, List, map, length, Option, Some, None, refl, sym, ap, ◌∙◌, slice_get}
use Rattle.std.specs.Prelude.{option_map}
use Rattle.std.proofs.lemmas.Fn.{always_returns_same}
use Rattle.std.proofs.lemmas.List.{length-map}
use Rattle.std.proofs.lemmas.List.MinMax.{ranks_by}
use Rattle.std.proofs.lemmas.Option.{slice_get-map}
use denote.Ref.{Bor}
use Rattle.std.specs.Cmp.{IsStrictWeakOrder, IsTotalOrder}
use Rattle.std.specs.Cmp.Lexicographic.{options_total, slice_cmp}
use Rattle.std.specs.Fn.{Called, ComparesAs}
use Rattle.std.specs.List.Sorted.{IsSortedBy}
use Rattle.std.specs.Option.{option_cmp}
use Rattle.std.specs.Ordering.{is_lt, nat_cmp, ordering_then}
use Rattle.std.specs.declared.cmp.Ordering.{Ordering}
use denote.Param.Members.{Mut}
use Rattle.tso_prog.specs.declared.client.Client.{Client}
use Rattle.tso_state.proofs.OrderLemmas.{state_alike}
use Rattle.tso_state.specs.Order.{state_cmp}
use Rattle.tso_state.specs.contracts.state.ThreadOrd.TheImpl as thread_impl
use Rattle.tso_state.specs.declared.state.State.{State}
use Rattle.tso_keys.proofs.Ranked.{by_ranks, five, rows_by_ranks}
use Rattle.tso_keys.proofs.StateLemmas.{kept_at}
use Rattle.tso_keys.specs.Keys.{AreKept, IsKept, IsKeyOf, state_at, states_at}
use Rattle.tso_keys.specs.Orders.{AreRanksBy, AreRowsOf, history_cmp, rank_at, row_by}
use Rattle.tso_keys.specs.contracts.rank_rows.RowOrd.TheImpl as row_impl
use Rattle.tso_keys.specs.declared.key.Key.{Key}
use Rattle.tso_keys.specs.declared.parts.Parts.{Parts}
use Rattle.tso_keys.specs.declared.rank_rows.Row.{Row}

-- from the clause `sorted` of `sort_by`, where each call compares the values of the two numbers
pub rising_with : {X : Type 0} (R : X → X → Ordering) → IsTotalOrder R → (key : ℕ → Option X) → {F : Type 0} {g : Mut F (Bor ℕ × (Bor ℕ × Unit {0})) Ordering} {f : F} (ns : List ℕ)
    → ((lt : ℕ → ℕ → Bool) → IsStrictWeakOrder lt → ComparesAs g lt f → IsSortedBy lt ns)
    → ((a : Bor ℕ × (Bor ℕ × Unit {0})) (r : Ordering) (f' : F) → Called g f a r f' → (r ≡ option_cmp R (key a.0.now) (key a.1.0.now)) × (f' ≡ f))
    → IsSortedBy (λ n m. is_lt (option_cmp R (key n) (key m))) ns
rising_with R total key {g = g} {f = f} ns up h =
    up (λ n m. is_lt (option_cmp R (key n) (key m))) (ranks_by (options_total total) key)
    (always_returns_same g (λ a r. is_lt r ≡ is_lt (option_cmp R (key a.0.now) (key a.1.0.now))) f (λ a r f' k. (ap is_lt (h a r f' k).0, (h a r f' k).1)))

-- rows of ranks are ordered as the states
row_order : (p : Parts) (ms ts hs : List ℕ) → AreRanksBy p ms ts hs → (k l : Key) → IsKeyOf p k (state_at p k) → IsKeyOf p l (state_at p l) → length (state_at p k).threads ≡ length (state_at p l).threads
    → row_impl.cmp-value.it (row_by ms ts hs k) (row_by ms ts hs l) ≡ state_cmp (state_at p k) (state_at p l)
row_order p ms ts hs is k l a b wide =
    let s : State = state_at p k in
    let t : State = state_at p l in
    let x : Row = row_by ms ts hs k in
    let y : Row = row_by ms ts hs l in
    let T : Ordering = slice_cmp nat_cmp x.threads y.threads in
    let H : Ordering = nat_cmp x.history y.history in
    let memory : nat_cmp x.memory y.memory ≡ slice_cmp nat_cmp s.memory t.memory = by_ranks (slice_cmp nat_cmp) p.memories ms is.memories k.memory l.memory s.memory t.memory a.memory b.memory in
    let history : H ≡ history_cmp s.history t.history = by_ranks history_cmp p.histories hs is.histories k.history l.history s.history t.history a.history b.history in
    let rows : slice_cmp nat_cmp (map (rank_at ts) k.threads) (map (rank_at ts) l.threads) ≡ slice_cmp thread_impl.cmp-value.it s.threads t.threads =
    rows_by_ranks thread_impl.cmp-value.it p.threads ts is.threads k.threads l.threads s.threads t.threads a.threads b.threads (a.wide ∙ sym b.wide) wide in
    let threads : T ≡ slice_cmp thread_impl.cmp-value.it s.threads t.threads =
    ap (λ (ns : List ℕ). slice_cmp nat_cmp ns y.threads) (five ts k.threads a.wide) ∙ ap (slice_cmp nat_cmp (map (rank_at ts) k.threads)) (five ts l.threads b.wide) ∙ rows in
    ap (λ (o : Ordering). ordering_then o (ordering_then T H)) memory
    ∙ ap (λ (o : Ordering). ordering_then (slice_cmp nat_cmp s.memory t.memory) (ordering_then o H)) threads
    ∙ ap (λ (o : Ordering). ordering_then (slice_cmp nat_cmp s.memory t.memory) (ordering_then (slice_cmp thread_impl.cmp-value.it s.threads t.threads) o)) history
    ∙ state_alike s t

-- and so are numbers, of which one without a state is less than each that has one
pub number_order : (c : Client) (p : Parts) (ks : List Key) (ms ts hs : List ℕ) → AreKept c p ks → AreRanksBy p ms ts hs → (n m : ℕ)
    → option_cmp row_impl.cmp-value.it (option_map (row_by ms ts hs) (slice_get ks n)) (option_map (row_by ms ts hs) (slice_get ks m)) ≡ option_cmp state_cmp (slice_get (states_at p ks) n) (slice_get (states_at p ks) m)
number_order c p ks ms ts hs kept is n m =
    by_case (slice_get ks n) (slice_get ks m) refl refl
    ∙ ap (λ (o : Option State). option_cmp state_cmp o (option_map (state_at p) (slice_get ks m))) (sym (slice_get-map (state_at p) ks n))
    ∙ ap (option_cmp state_cmp (slice_get (states_at p ks) n)) (sym (slice_get-map (state_at p) ks m))
  where
    by_case : (x y : Option Key) → slice_get ks n ≡ x → slice_get ks m ≡ y → option_cmp row_impl.cmp-value.it (option_map (row_by ms ts hs) x) (option_map (row_by ms ts hs) y) ≡ option_cmp state_cmp (option_map (state_at p) x) (option_map (state_at p) y)
    by_case None None e f = refl
    by_case None (Some l) e f = refl
    by_case (Some k) None e f = refl
    by_case (Some k) (Some l) e f =
        let a : IsKept c p k = kept_at c p ks n k kept e in
        let b : IsKept c p l = kept_at c p ks m l kept f in
        row_order p ms ts hs is k l a.key b.key (a.fits.threads ∙ sym b.fits.threads)

-- the rows of ranks of all states
pub rows_are : (c : Client) (p : Parts) (ks : List Key) (ms ts hs : List ℕ) → AreKept c p ks → AreRanksBy p ms ts hs → AreRowsOf (states_at p ks) (map (row_by ms ts hs) ks)
rows_are c p ks ms ts hs kept is = record {
  count = length-map ks (row_by ms ts hs) ∙ sym (length-map ks (state_at p));
  alike = λ n m.
      ap (λ (o : Option Row). option_cmp row_impl.cmp-value.it o (slice_get (map (row_by ms ts hs) ks) m)) (slice_get-map (row_by ms ts hs) ks n)
      ∙ ap (option_cmp row_impl.cmp-value.it (option_map (row_by ms ts hs) (slice_get ks n))) (slice_get-map (row_by ms ts hs) ks m)
      ∙ number_order c p ks ms ts hs kept is n m;
}
