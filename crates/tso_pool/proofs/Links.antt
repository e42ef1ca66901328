-- Seats that reach one another, one more and one less.
use Rattle.std.proofs.Common.{◌≡◌, ℕ, ◌+◌, ◌-◌, ◌<◌, ◌≤◌, ◌⊎◌, inl, inr, List, [], ◌∷◌, ◌++◌, All, map, length, get_or, take, remove, refl, sym, ap, ◌∙◌, subst, arith}
use Rattle.std.proofs.Math.Seq.{take-append_seam}
use Rattle.std.proofs.lemmas.Bool.{cases_lt}
use Rattle.std.proofs.lemmas.List.{append-nil, map-append, length-map, length-append, get_or-append_right, get_or_append_left, get_or-map}
use Rattle.std.proofs.lemmas.List.Edits.{remove-append_left, remove-append_right}
use Rattle.std.proofs.lemmas.List.Elements.{All-push}
use Rattle.tso_pool.specs.declared.rule.Hand.{Hand}
use Rattle.tso_pool.specs.declared.seat.Seat.{Seat}
use Rattle.tso_pool.specs.declared.victim.Victim.{Victim}
use Rattle.tso_pool.specs.Hands.{all_got, all_parts, hand}
use Rattle.tso_pool.specs.Victims.{DequeId, hands, reaches}
use Rattle.tso_pool.specs.Seats.{Place, Tally, place_of, tally_of, listed, no_tickets, own_hand, IsNew}
use Rattle.tso_pool.specs.Linked.{met_by, met_all, ways, places, tallies, AreLinked, IsLinkedAt}

ways_met : (deque : DequeId) (ps : List Place) → ways (map (met_by deque) ps) ≡ ways ps
ways_met deque [] = refl
ways_met deque (p ∷ ps) = ap (λ (ws : List (DequeId × ℕ)). (p.deque, 1) ∷ ws) (ways_met deque ps)

module _ (ps : List Place) (p : Place) where
  more : List Place
  more = map (met_by p.deque) ps ++ met_all ps p ∷ []

  long_more : length more ≡ length ps + 1
  unfolding more
  long_more = omega (arith, length-append (map (met_by p.deque) ps) (met_all ps p ∷ []), length-map ps (met_by p.deque))

  ways_more : ways more ≡ ways ps ++ (p.deque, 1) ∷ []
  unfolding more
  ways_more = map-append (λ (q : Place). let w : DequeId × ℕ = (q.deque, 1) in w) (map (met_by p.deque) ps) (met_all ps p ∷ []) ∙ ap (λ (ws : List (DequeId × ℕ)). ws ++ (p.deque, 1) ∷ []) (ways_met p.deque ps)

  module _ (linked : AreLinked ps) (all : p.parts ≡ all_parts) (none : p.others ≡ []) (few : length ps < all_parts) where
    -- one that was there before
    old_linked : (k : ℕ) (q : Place) → k < length ps → IsLinkedAt ps k q → IsLinkedAt more k (met_by p.deque q)
    old_linked k q below at =
        let l : length (ways ps) ≡ length ps = length-map ps (λ (r : Place). let w : DequeId × ℕ = (r.deque, 1) in w) in
        let there : k < length (ways ps) = omega arith in record {
          reach = ap (λ (ws : List (DequeId × ℕ)). ws ++ (p.deque, 1) ∷ []) at.reach ∙ sym (remove-append_left (ways ps) ((p.deque, 1) ∷ []) k there) ∙ ap (λ (ws : List (DequeId × ℕ)). remove ws k) (sym ways_more);
          held = omega (arith, at.held, long_more);
        }

    -- the newcomer
    new_linked : IsLinkedAt more (length ps) (met_all ps p)
    new_linked =
        let l : length (ways ps) ≡ length ps = length-map ps (λ (r : Place). let w : DequeId × ℕ = (r.deque, 1) in w) in
        let last = remove-append_right (ways ps) ((p.deque, 1) ∷ []) (length ps) (length ps) l (omega arith) in
        let zeroth : length ps - length ps ≡ 0 = omega arith in record {
          reach = ap (λ (ws : List (DequeId × ℕ)). ws ++ ways ps) none ∙ sym (append-nil (ways ps)) ∙ ap (λ (n : ℕ). ways ps ++ remove ((p.deque, 1) ∷ []) n) (sym zeroth) ∙ sym last ∙ ap (λ (ws : List (DequeId × ℕ)). remove ws (length ps)) (sym ways_more);
          held = omega (arith, all, long_more);
        }

    pub linked_more : AreLinked (map (met_by p.deque) ps ++ met_all ps p ∷ [])
    unfolding more
    linked_more k d below = by (cases_lt k (length ps))
      where
        by : (k < length ps) ⊎ (length ps ≤ k) → IsLinkedAt more k (get_or more k d)
        by (inl h) =
            let l : k < length (map (met_by p.deque) ps) = omega (arith, length-map ps (met_by p.deque)) in
            let e : get_or more k d ≡ met_by p.deque (get_or ps k p) = get_or_append_left (map (met_by p.deque) ps) (met_all ps p ∷ []) d k l ∙ get_or-map (met_by p.deque) ps k p d h in
            rw e (old_linked k (get_or ps k p) h (linked k p h))
        by (inr h) =
            let last : k ≡ length ps = omega (arith, below, long_more) in
            let zeroth : length ps - length ps ≡ 0 = omega arith in
            let e : get_or more (length ps) d ≡ met_all ps p = get_or-append_right (map (met_by p.deque) ps) (met_all ps p ∷ []) (length ps) (length ps) d (length-map ps (met_by p.deque)) (omega arith) ∙ ap (λ (n : ℕ). get_or (met_all ps p ∷ []) n d) zeroth in
            rw last (rw e new_linked)

pub may_link : (ps : List Place) → AreLinked ps → length ps < all_parts → All (λ p. 1 < p.parts) ps
may_link ps linked few k d below = omega (arith, (linked k d below).held)

none_of : {T : Type 0} (h : Hand T) (vs : List (Victim T)) (list : List T) → h ≡ hand all_parts [] [] → vs ≡ [] → list ≡ [] → (let t : Tally T = record { pushed = h.pushed; found = h.got ++ all_got (hands vs); listed = list } in t ≡ no_tickets)
none_of h vs list e f g = rw (e, f, g) refl

module _ {T : Type 0} (olds news : List (Seat T)) (first newcomer : Seat T) (new : IsNew first) where
  pub added_places : AreLinked (places olds) → length olds < all_parts → place_of newcomer ≡ met_all (places olds) (place_of first) → places news ≡ map (met_by (place_of first).deque) (places olds) → AreLinked (places (news ++ newcomer ∷ []))
  added_places linked few one others =
      let ps : List Place = places olds in
      let p : Place = place_of first in
      let e : places (news ++ newcomer ∷ []) ≡ map (met_by p.deque) ps ++ met_all ps p ∷ [] = map-append (place_of {T = T}) news (newcomer ∷ []) ∙ ap (λ (qs : List Place). qs ++ place_of newcomer ∷ []) others ∙ ap (λ (q : Place). map (met_by p.deque) ps ++ q ∷ []) one in
      let all : p.parts ≡ all_parts = ap (λ (h : Hand T). h.parts) new.own in
      let none : p.others ≡ [] = ap reaches new.others in
      let short : length ps < all_parts = omega (arith, length-map olds (place_of {T = T}), few) in
      let P : List Place → Type 0 = AreLinked in
      subst P (sym e) (linked_more ps p linked all none short)

  pub added_tallies : tally_of newcomer ≡ tally_of first → tallies news ≡ tallies olds → tallies (news ++ newcomer ∷ []) ≡ tallies olds ++ no_tickets ∷ []
  added_tallies one others =
      let none : tally_of first ≡ no_tickets = none_of (own_hand first) first.others.items (listed first) new.own new.others new.list in
      map-append (tally_of {T = T}) news (newcomer ∷ []) ∙ ap (λ (ts : List (Tally T)). ts ++ tally_of newcomer ∷ []) others ∙ ap (λ (t : Tally T). tallies olds ++ t ∷ []) (one ∙ none)

pub none_linked : {T : Type 0} (seats : List (Seat T)) → seats ≡ [] → AreLinked (places seats)
none_linked [] none = λ k d below. absurd (omega arith)
none_linked (s ∷ seats) none = absurd (cc)

pub none_empty : {T : Type 0} (seats : List (Seat T)) → seats ≡ [] → All (λ t. t ≡ no_tickets) (tallies seats)
none_empty [] none = λ k d below. absurd (omega arith)
none_empty (s ∷ seats) none = absurd (cc)

pub more_empty : {T : Type 0} (olds news : List (Tally T)) → All (λ t. t ≡ no_tickets) olds → news ≡ olds ++ no_tickets ∷ [] → All (λ t. t ≡ no_tickets) news
more_empty olds news all is = rw is (All-push (λ t. t ≡ no_tickets) olds no_tickets all refl)

-- a whole list that was lent and came back
pub written : {X : Type 0} (n : ℕ) (news rest : List X) → length news ≡ n → take n (news ++ rest) ≡ news
written n news rest long = rw (← long) (take-append_seam news rest)
