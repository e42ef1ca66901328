-- What several have got.
use Rattle.std.proofs.Common.{◌≡◌, ℕ, List, [], ◌∷◌, ◌++◌, refl, sym, ap, ◌∙◌, append_assoc, IsPermutation}
use Rattle.std.proofs.lemmas.List.{append-nil, map-append}
use Rattle.std.proofs.lemmas.List.Sorted.{IsPermutation-append_left, IsPermutation-append_right, IsPermutation-append_comm}
use Rattle.tso_pool.specs.declared.rule.Hand.{Hand}
use Rattle.tso_pool.specs.declared.victim.Victim.{Victim}
use Rattle.tso_pool.specs.Hands.{all_got, hand}
use Rattle.tso_pool.specs.Victims.{hand_of, hands}
use Rattle.tso_pool.specs.Seats.{Tally, with_found, IsFoundToo}
use Rattle.tso_pool.proofs.Kept.{swap_last}

module _ {T : Type 0} where
  all_got-append : (xs ys : List (Hand T)) → all_got (xs ++ ys) ≡ all_got xs ++ all_got ys
  all_got-append [] ys = refl
  all_got-append (x ∷ xs) ys = ap (λ (l : List T). x.got ++ l) (all_got-append xs ys) ∙ sym (append_assoc x.got (all_got xs) (all_got ys))

  found_more : (got : List T) (vs : List (Victim T)) (v : Victim T) → got ++ all_got (hands (vs ++ v ∷ [])) ≡ (got ++ all_got (hands vs)) ++ (hand_of v).got
  found_more got vs v =
      rw (map-append hand_of vs (v ∷ []), all_got-append (hands vs) (hand_of v ∷ []), append-nil (hand_of v).got, ← append_assoc got (all_got (hands vs)) (hand_of v).got) refl

  pub reached : (pushed listed got : List T) (olds news : List (Victim T)) (v : Victim T) → news ≡ olds ++ v ∷ [] → (let t : Tally T = record { pushed = pushed; found = got ++ all_got (hands news); listed = listed } in let u : Tally T = record { pushed = pushed; found = got ++ all_got (hands olds); listed = listed } in t ≡ with_found u (hand_of v).got)
  reached pushed listed got olds news v is =
      rw is (ap (λ (l : List T). let t : Tally T = record { pushed = pushed; found = l; listed = listed } in t) (found_more got olds v))

  pub found_too : (old new : Hand T) (parts : ℕ) (xs rest listed : List T) → new ≡ hand parts old.pushed (old.got ++ xs) → (let t : Tally T = record { pushed = old.pushed; found = old.got ++ rest; listed = listed } in let u : Tally T = record { pushed = new.pushed; found = new.got ++ rest; listed = listed } in IsFoundToo t u xs)
  found_too old new parts xs rest listed is = record {
    same_pushed = ap (λ (h : Hand T). h.pushed) is;
    same_listed = refl;
    once = (let got : new.got ≡ old.got ++ xs = ap (λ (h : Hand T). h.got) is in rw got (swap_last old.got rest xs));
  }

  pub regroup_four : (a b c d : List T) → IsPermutation ((a ++ b) ++ (c ++ d)) ((a ++ c) ++ (b ++ d))
  regroup_four a b c d =
      rw (append_assoc a b (c ++ d), append_assoc a c (b ++ d), ← append_assoc b c d, ← append_assoc c b d) (IsPermutation-append_right a ((b ++ c) ++ d) ((c ++ b) ++ d) (IsPermutation-append_left d (b ++ c) (c ++ b) (IsPermutation-append_comm b c)))
