-- A newcomer is linked with one seat after another.
use Rattle.std.proofs.Common.{◌≡◌, ℕ, suc, ◌+◌, ◌-◌, ◌<◌, List, [], ◌∷◌, ◌++◌, All, map, length, set, get_or, take, drop, refl, sym, ap, ◌∙◌, arith, append_assoc}
use Rattle.std.proofs.lemmas.List.{append-nil, map-append, map-set, length-map, length-set, length-take-le, set-append_right, get_or-append_right, take_more}
use Rattle.std.proofs.Math.Seq.{map-set_same, drop-cons, take-length}
use Rattle.std.proofs.Math.ListN.{get_or-map}
use Rattle.tso_pool.specs.declared.seat.Seat.{Seat}
use Rattle.tso_pool.specs.Victims.{DequeId}
use Rattle.tso_pool.specs.Seats.{Place, place_of, tally_of}
use Rattle.tso_pool.specs.Linked.{met_by, met_all, ways, places, tallies}

module _ {X : Type 0} (f : X → X) where
  -- the first ones are changed by f
  pub mapped : ℕ → List X → List X
  mapped at xs = map f (take at xs) ++ drop at xs

  pub none_mapped : (xs : List X) → mapped 0 xs ≡ xs
  unfolding mapped
  none_mapped [] = refl
  none_mapped (x ∷ xs) = refl

  drop_at : (xs : List X) (at : ℕ) (d : X) → at < length xs → drop at xs ≡ get_or xs at d ∷ drop (at + 1) xs
  drop_at xs at d below = let s : at + 1 ≡ suc at = omega arith in rw (s, drop-cons xs at d below) refl

  long_mapped : (xs : List X) (at : ℕ) → at < length xs → length (map f (take at xs)) ≡ at
  long_mapped xs at below = length-map (take at xs) f ∙ length-take-le at xs (omega arith)

  -- the next one is as it was
  pub next_mapped : (xs : List X) (at : ℕ) (d : X) → at < length xs → get_or (mapped at xs) at d ≡ get_or xs at d
  unfolding mapped
  next_mapped xs at d below =
      let none : at - at ≡ 0 = omega arith in
      rw (get_or-append_right (map f (take at xs)) (drop at xs) at at d (long_mapped xs at below) (omega arith), none, drop_at xs at d below) refl

  -- one more is changed
  pub one_mapped : (xs : List X) (at : ℕ) (d : X) → at < length xs → set (mapped at xs) at (f (get_or xs at d)) ≡ mapped (at + 1) xs
  unfolding mapped
  one_mapped xs at d below =
      let none : at - at ≡ 0 = omega arith in
      let x : X = get_or xs at d in
      rw (set-append_right (map f (take at xs)) (drop at xs) at at (f x) (long_mapped xs at below) (omega arith), none, drop_at xs at d below, take_more xs at d below, map-append f (take at xs) (x ∷ []), append_assoc (map f (take at xs)) (f x ∷ []) (drop (at + 1) xs)) refl

  drop_all : (xs : List X) → drop (length xs) xs ≡ []
  drop_all [] = refl
  drop_all (x ∷ xs) = drop_all xs

  pub all_mapped : (xs : List X) → mapped (length xs) xs ≡ map f xs
  unfolding mapped
  all_mapped xs = rw (take-length xs, drop_all xs) (append-nil (map f xs))

-- a seat is linked with one more
met_more : (ps : List Place) (at : ℕ) (d p : Place) → at < length ps → met_by (get_or ps at d).deque (met_all (take at ps) p) ≡ met_all (take (at + 1) ps) p
met_more ps at d p below =
    let q : Place = get_or ps at d in
    let l : length (take at ps) ≡ at = length-take-le at ps (omega arith) in
    let l' : length (take (at + 1) ps) ≡ at + 1 = length-take-le (at + 1) ps (omega arith) in
    let less : (p.parts - at) - 1 ≡ p.parts - (at + 1) = omega arith in
    let w : (p.others ++ ways (take at ps)) ++ (q.deque, 1) ∷ [] ≡ p.others ++ ways (take (at + 1) ps) = rw (take_more ps at d below, map-append (λ (r : Place). let w : DequeId × ℕ = (r.deque, 1) in w) (take at ps) (q ∷ []), ← append_assoc p.others (ways (take at ps)) ((q.deque, 1) ∷ [])) refl in
    rw (l, l', less, w) refl

none_at_all : (p : Place) → met_all [] p ≡ p
none_at_all p = let less : p.parts - 0 ≡ p.parts = omega arith in rw (less, append-nil p.others) refl

same_met : (a b c d : Place) → a ≡ b → c ≡ d → met_by a.deque c ≡ met_by b.deque d
same_met a b c d e f = ap (λ (p : Place). met_by p.deque c) e ∙ ap (met_by b.deque) f

module _ {T : Type 0} where
  pub record IsMeeting (first newcomer : Seat T) (olds news : List (Seat T)) (at : ℕ) : Type 0 where
    pub newcomer_is : place_of newcomer ≡ met_all (take at (places olds)) (place_of first)
    pub seats_are : places news ≡ mapped (met_by (place_of first).deque) at (places olds)
    pub tally : tally_of newcomer ≡ tally_of first
    pub others_tallies : tallies news ≡ tallies olds
    pub long : length news ≡ length olds

  pub none_met : (first : Seat T) (olds : List (Seat T)) → IsMeeting first first olds olds 0
  none_met first olds = record {
    newcomer_is = sym (none_at_all (place_of first));
    seats_are = sym (none_mapped (met_by (place_of first).deque) (places olds));
    tally = refl;
    others_tallies = refl;
    long = refl;
  }

  module _ (first newcomer newcomer' : Seat T) (olds news : List (Seat T)) (at : ℕ) (d s : Seat T) where
    -- the seat that is next
    next_is : IsMeeting first newcomer olds news at → at < length news → place_of (get_or news at d) ≡ get_or (places olds) at (place_of d)
    next_is met below =
        let long : at < length (places olds) = omega (arith, length-map olds (place_of {T = T}), met.long) in
        sym (get_or-map (place_of {T = T}) news at d) ∙ ap (λ (ps : List Place). get_or ps at (place_of d)) met.seats_are ∙ next_mapped (met_by (place_of first).deque) (places olds) at (place_of d) long

    pub one_met : IsMeeting first newcomer olds news at → at < length news → place_of newcomer' ≡ met_by (place_of (get_or news at d)).deque (place_of newcomer) → place_of s ≡ met_by (place_of newcomer).deque (place_of (get_or news at d)) → tally_of newcomer' ≡ tally_of newcomer → tally_of s ≡ tally_of (get_or news at d) → IsMeeting first newcomer' olds (set news at s) (at + 1)
    one_met met below one other mine its =
        let long : at < length (places olds) = omega (arith, length-map olds (place_of {T = T}), met.long) in
        let ps : List Place = places olds in
        let f : Place → Place = met_by (place_of first).deque in
        let is : place_of (get_or news at d) ≡ get_or ps at (place_of d) = next_is met below in
        let deque : (place_of newcomer).deque ≡ (place_of first).deque = ap (λ (p : Place). p.deque) met.newcomer_is in
        let changed : place_of s ≡ f (get_or ps at (place_of d)) = other ∙ ap (λ (x : DequeId). met_by x (place_of (get_or news at d))) deque ∙ ap f is in record {
          newcomer_is = one ∙ same_met (place_of (get_or news at d)) (get_or ps at (place_of d)) (place_of newcomer) (met_all (take at ps) (place_of first)) is met.newcomer_is ∙ met_more ps at (place_of d) (place_of first) long;
          seats_are = map-set (place_of {T = T}) news at s ∙ ap (λ (qs : List Place). set qs at (place_of s)) met.seats_are ∙ ap (set (mapped f at ps) at) changed ∙ one_mapped f ps at (place_of d) long;
          tally = mine ∙ met.tally;
          others_tallies = map-set_same (tally_of {T = T}) news at s d its ∙ met.others_tallies;
          long = length-set news at s ∙ met.long;
        }

  pub record IsMet (first newcomer : Seat T) (olds news : List (Seat T)) : Type 0 where
    pub newcomer_is : place_of newcomer ≡ met_all (places olds) (place_of first)
    pub seats_are : places news ≡ map (met_by (place_of first).deque) (places olds)
    pub tally : tally_of newcomer ≡ tally_of first
    pub others_tallies : tallies news ≡ tallies olds

  pub all_met : (first newcomer : Seat T) (olds news : List (Seat T)) (at : ℕ) → IsMeeting first newcomer olds news at → at ≡ length olds → IsMet first newcomer olds news
  all_met first newcomer olds news at met all =
      let l : at ≡ length (places olds) = all ∙ sym (length-map olds (place_of {T = T})) in record {
        newcomer_is = met.newcomer_is ∙ ap (λ (ps : List Place). met_all ps (place_of first)) (ap (λ (n : ℕ). take n (places olds)) l ∙ take-length (places olds));
        seats_are = met.seats_are ∙ ap (λ (n : ℕ). mapped (met_by (place_of first).deque) n (places olds)) l ∙ all_mapped (met_by (place_of first).deque) (places olds);
        tally = met.tally;
        others_tallies = met.others_tallies;
      }

  -- before the next one both have parts to give
  pub may_meet : (first newcomer : Seat T) (olds news : List (Seat T)) (at : ℕ) (d : Seat T) → IsMeeting first newcomer olds news at → at < length news → length olds < (place_of first).parts → All (λ p. 1 < p.parts) (places olds) → (1 < (place_of newcomer).parts) × (1 < (place_of (get_or news at d)).parts)
  may_meet first newcomer olds news at d met below enough each =
      let long : at < length (places olds) = omega (arith, length-map olds (place_of {T = T}), met.long) in
      let l : length (take at (places olds)) ≡ at = length-take-le at (places olds) (omega arith) in
      let mine : (place_of newcomer).parts ≡ (place_of first).parts - at = ap (λ (p : Place). p.parts) met.newcomer_is ∙ ap (λ (n : ℕ). (place_of first).parts - n) l in
      let its : (place_of (get_or news at d)).parts ≡ (get_or (places olds) at (place_of d)).parts = ap (λ (p : Place). p.parts) (next_is first newcomer newcomer olds news at d d met below) in
      let all : 1 < (get_or (places olds) at (place_of d)).parts = each at (place_of d) long in
      (omega (arith, met.long), rw its all)
