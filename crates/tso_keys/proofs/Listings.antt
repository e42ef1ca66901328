-- Histories by their lists of calls.
use Rattle.std.proofs.Common.{◌≡◌, ◌∙◌, ◌⊎◌, inl, inr, ℕ, zero, suc, ◌+◌, ◌≤◌, Bool, List, [], ◌∷◌, ◌++◌, length, map, take, Option, None, Some, ap, refl, sym, subst, arith, slice_get}
use Rattle.std.proofs.lemmas.List.{length_push, take_more}
use Rattle.std.proofs.lemmas.Option.{get_or_from_slice_get, slice_get_past, slice_get_within}
use Rattle.std.specs.Cmp.{IsTotalOrder}
use Rattle.std.specs.Cmp.Lexicographic.{slice_cmp}
use Rattle.std.specs.Option.{option_cmp}
use Rattle.std.specs.List.Sorted.{IsSortedBy, IsSortedByKey}
use Rattle.std.specs.Ordering.{is_lt, nat_cmp}
use Rattle.std.specs.Prelude.{option_map}
use Rattle.std.specs.declared.cmp.Ordering.TheVariants.{Less, Equal, Greater}
use Rattle.tso_hist.specs.contracts.exact.HistoryExact.TheImpl.Laws as history_exact
use Rattle.tso_hist.specs.contracts.history.HistoryOrd.TheImpl.Laws as history_laws
use Rattle.tso_hist.specs.declared.call.Call.{Call}
use Rattle.tso_parts.proofs.Marked.{item_at}
use Rattle.tso_parts.specs.Numbers.{Extends}
use Rattle.tso_keys.proofs.Lists.{at_end}
use Rattle.tso_keys.proofs.Ranked.{equal_is_same, five, rows_by_ranks}
use Rattle.tso_keys.proofs.Rows.{more_numbers}
use Rattle.tso_keys.specs.Listing.{AreListed, IsListedAs, IsListing, ranked_row}
use Rattle.tso_keys.specs.Orders.{history_cmp, list_cmp, rank_at, ranks_in}

pub listed_grows : (old new : List (List Call)) (width : ℕ) (hs : List (List (List Call))) (rows : List (List ℕ)) → Extends old new → AreListed old width hs rows → AreListed new width hs rows
listed_grows old new width hs rows extends are = record {
  count = are.count;
  each = λ n h r at there.
      let is = are.each n h r at there in
      record { numbers = more_numbers old new r h extends is.numbers; wide = is.wide; threads = is.threads };
}

-- one more history
module _ (pool : List (List Call)) (width : ℕ) (hs : List (List (List Call))) (rows : List (List ℕ)) (h : List (List Call)) (r : List ℕ) (are : AreListed pool width hs rows) (is : IsListedAs pool width h r) where
  both : (n : ℕ) (g : List (List Call)) (s : List ℕ) → (slice_get hs n ≡ Some g) ⊎ ((n ≡ length hs) × (g ≡ h)) → (slice_get rows n ≡ Some s) ⊎ ((n ≡ length rows) × (s ≡ r)) → IsListedAs pool width g s
  both n g s (inl a) (inl b) = are.each n g s a b
  both n g s (inl a) (inr b) = let less = slice_get_within hs n g a in absurd (omega (arith, less, b.0, are.count))
  both n g s (inr a) (inl b) = let less = slice_get_within rows n s b in absurd (omega (arith, less, a.0, are.count))
  both n g s (inr a) (inr b) = rw (a.1, b.1) is

  pub one_listed : AreListed pool width (hs ++ h ∷ []) (rows ++ r ∷ [])
  one_listed = record {
    count = length_push rows r ∙ ap (λ k. k + 1) are.count ∙ sym (length_push hs h);
    each = λ n g s at there. both n g s (at_end hs h n g at) (at_end rows r n s there);
  }

pub next_listed : (pool : List (List Call)) (width : ℕ) (hs : List (List (List Call))) (n : ℕ) (rows : List (List ℕ)) (h : List (List Call)) (r : List ℕ) → AreListed pool width (take n hs) rows → slice_get hs n ≡ Some h → IsListedAs pool width h r
    → AreListed pool width (take (n + 1) hs) (rows ++ r ∷ [])
next_listed pool width hs n rows h r are at is =
    let next : take (n + 1) hs ≡ take n hs ++ h ∷ [] = take_more hs n h (slice_get_within hs n h at) ∙ ap (λ g. take n hs ++ g ∷ []) (get_or_from_slice_get hs n h h at) in
    subst (λ (l : List (List (List Call))). AreListed pool width l (rows ++ r ∷ [])) (sym next) (one_listed pool width (take n hs) rows h r are is)

none_within : {X : Type 0} (xs : List X) (n : ℕ) → slice_get xs n ≡ None → length xs ≤ n
none_within [] n e = omega arith
none_within {X} (x ∷ xs) zero e = absurd (let k : Some x ≡ None = e in cc)
none_within (x ∷ xs) (suc n) e = let h = none_within xs n e in omega (arith, h)

-- rows are ordered as histories
module _ (pool : List (List Call)) (ranks : List ℕ) (hs : List (List (List Call))) (rows : List (List ℕ)) (is : IsListing pool ranks hs rows) where
  there : (n : ℕ) (r : List ℕ) → slice_get rows n ≡ Some r → {C : Type 0} → ((h : List (List Call)) → slice_get hs n ≡ Some h → IsListedAs pool is.width h r → C) → C
  there n r at go =
      let less = slice_get_within rows n r at in
      let many = is.listed.count in
      item_at hs n (omega (arith, less, many)) (λ h e. go h e (is.listed.each n h r e at))

  nowhere : (n : ℕ) → slice_get rows n ≡ None → slice_get hs n ≡ None
  nowhere n e = let most = none_within rows n e in let many = is.listed.count in slice_get_past hs n (omega (arith, most, many))

  both_ranked : (n m : ℕ) (r s : List ℕ) → slice_get rows n ≡ Some r → slice_get rows m ≡ Some s → slice_cmp nat_cmp (ranks_in ranks r) (ranks_in ranks s) ≡ option_cmp history_cmp (slice_get hs n) (slice_get hs m)
  both_ranked n m r s at bt =
      there n r at (λ h a one. there m s bt (λ g b two.
      ap (λ (l : List ℕ). slice_cmp nat_cmp l (ranks_in ranks s)) (five ranks r one.wide)
      ∙ ap (slice_cmp nat_cmp (map (rank_at ranks) r)) (five ranks s two.wide)
      ∙ rows_by_ranks list_cmp pool ranks is.ranked r s h g one.numbers two.numbers (one.wide ∙ sym two.wide) (one.threads ∙ sym two.threads)
      ∙ ap (λ (k : Option (List (List Call))). option_cmp history_cmp k (Some g)) (sym a)
      ∙ ap (λ (k : Option (List (List Call))). option_cmp history_cmp (slice_get hs n) k) (sym b)))

  first_alone : (n m : ℕ) (r : List ℕ) → slice_get rows n ≡ Some r → slice_get rows m ≡ None → Greater ≡ option_cmp history_cmp (slice_get hs n) (slice_get hs m)
  first_alone n m r at none =
      there n r at (λ h a one.
      ap (λ (k : Option (List (List Call))). option_cmp history_cmp k None) (sym a)
      ∙ ap (λ (k : Option (List (List Call))). option_cmp history_cmp (slice_get hs n) k) (sym (nowhere m none)))

  second_alone : (n m : ℕ) (s : List ℕ) → slice_get rows n ≡ None → slice_get rows m ≡ Some s → Less ≡ option_cmp history_cmp (slice_get hs n) (slice_get hs m)
  second_alone n m s none bt =
      there m s bt (λ g b two.
      ap (λ (k : Option (List (List Call))). option_cmp history_cmp k (Some g)) (sym (nowhere n none))
      ∙ ap (λ (k : Option (List (List Call))). option_cmp history_cmp (slice_get hs n) k) (sym b))

  none_there : (n m : ℕ) → slice_get rows n ≡ None → slice_get rows m ≡ None → Equal ≡ option_cmp history_cmp (slice_get hs n) (slice_get hs m)
  none_there n m none too =
      ap (λ (k : Option (List (List Call))). option_cmp history_cmp k None) (sym (nowhere n none))
      ∙ ap (λ (k : Option (List (List Call))). option_cmp history_cmp (slice_get hs n) k) (sym (nowhere m too))

  -- the ranks of the lists of histories are ordered as these
  pub ranked_alike : (n m : ℕ) → option_cmp (slice_cmp nat_cmp) (ranked_row ranks rows n) (ranked_row ranks rows m) ≡ option_cmp history_cmp (slice_get hs n) (slice_get hs m)
  ranked_alike n m = by_case (slice_get rows n) (slice_get rows m) refl refl
    where
      by_case : (a b : Option (List ℕ)) → slice_get rows n ≡ a → slice_get rows m ≡ b → option_cmp (slice_cmp nat_cmp) (option_map (ranks_in ranks) a) (option_map (ranks_in ranks) b) ≡ option_cmp history_cmp (slice_get hs n) (slice_get hs m)
      by_case (Some r) (Some s) at bt = both_ranked n m r s at bt
      by_case (Some r) None at bt = first_alone n m r at bt
      by_case None (Some s) at bt = second_alone n m s at bt
      by_case None None at bt = none_there n m at bt

  -- numbers in the order of these are in that of the histories
  pub rising_by_ranks : (ns : List ℕ) → IsSortedByKey (ranked_row ranks rows) (option_cmp (slice_cmp nat_cmp)) ns → IsSortedBy (λ n m. is_lt (option_cmp history_cmp (slice_get hs n) (slice_get hs m))) ns
  rising_by_ranks ns up = subst (λ (lt : ℕ → ℕ → Bool). IsSortedBy lt ns) (λ i n m. is_lt (ranked_alike n m i)) up

-- the order of histories is one
pub history_total : IsTotalOrder history_cmp
history_total = history_laws.total-law

pub histories_differ : (x y : List (List Call)) → history_cmp x y ≡ Equal → x ≡ y
histories_differ = equal_is_same _ history_cmp history_exact.exact-law history_laws.matches_eq-law
