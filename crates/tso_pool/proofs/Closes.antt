-- The last of several seats has parted from the others.
use Rattle.std.proofs.Common.{◌≡◌, ℕ, ◌+◌, ◌-◌, ◌^◌, ◌<◌, min, List, [], ◌∷◌, ◌++◌, All, map, length, get_or, take, remove, refl, sym, ap, ◌∙◌, subst, arith, append_assoc, IsPermutation, flat_map}
use Rattle.std.proofs.lemmas.List.{append-nil, map-append, length-append, length-map, get_or-append_right, get_or_append_left, get_or-map}
use Rattle.std.proofs.lemmas.List.Edits.{remove-append_left, remove-append_right}
use Rattle.std.proofs.lemmas.Grind.{flat_map-append}
use Rattle.std.proofs.lemmas.List.Sorted.{IsPermutation-refl, IsPermutation-trans, IsPermutation-sym, IsPermutation-append, IsPermutation-append_left}
use Rattle.tso_pool.specs.declared.rule.Hand.{Hand}
use Rattle.tso_pool.specs.declared.victim.Victim.{Victim}
use Rattle.tso_pool.specs.declared.seat.Seat.{Seat}
use Rattle.tso_pool.specs.Hands.{all_got, all_parts, IsAccountOf}
use Rattle.tso_pool.specs.Victims.{DequeId, hands, reaches}
use Rattle.tso_pool.specs.Seats.{Place, place_of, listed, own_hand, IsLeft}
use Rattle.tso_pool.specs.Linked.{left_by, ways, places, pushed_of, found_of, all_pushed, all_found, all_listed, AreClosed, AreLeft, AreLinked, IsLinkedAt, ReachesLast}
use Rattle.tso_pool.proofs.Tallies.{regroup_four}
use Rattle.tso_pool.proofs.Unlinks.{but_last, IsParted}

ways_left : (ps : List Place) → ways (map left_by ps) ≡ ways ps
ways_left [] = refl
ways_left (p ∷ ps) = ap (λ (ws : List (DequeId × ℕ)). (p.deque, 1) ∷ ws) (ways_left ps)

module _ (ps : List Place) (p : Place) (linked : AreLinked (ps ++ p ∷ [])) where
  all_ways : ways (ps ++ p ∷ []) ≡ ways ps ++ (p.deque, 1) ∷ []
  all_ways = map-append (λ (q : Place). let w : DequeId × ℕ = (q.deque, 1) in w) ps (p ∷ [])

  long_ways : length (ways ps) ≡ length ps
  long_ways = length-map ps (λ (q : Place). let w : DequeId × ℕ = (q.deque, 1) in w)

  long_all : length (ps ++ p ∷ []) ≡ length ps + 1
  long_all = omega (arith, length-append ps (p ∷ []))

  last_linked : IsLinkedAt (ps ++ p ∷ []) (length ps) p
  last_linked =
      let zeroth : length ps - length ps ≡ 0 = omega arith in
      let is : get_or (ps ++ p ∷ []) (length ps) p ≡ p = get_or-append_right ps (p ∷ []) (length ps) (length ps) p refl (omega arith) ∙ ap (λ (n : ℕ). get_or (p ∷ []) n p) zeroth in
      let P : Place → Type 0 = IsLinkedAt (ps ++ p ∷ []) (length ps) in
      subst P is (linked (length ps) p (omega (arith, long_all)))

  pub last_reaches : p.others ≡ ways ps
  last_reaches =
      let zeroth : length ps - length ps ≡ 0 = omega arith in
      last_linked.reach ∙ ap (λ (ws : List (DequeId × ℕ)). remove ws (length ps)) all_ways ∙ remove-append_right (ways ps) ((p.deque, 1) ∷ []) (length ps) (length ps) long_ways (omega arith)
      ∙ ap (λ (n : ℕ). ways ps ++ remove ((p.deque, 1) ∷ []) n) zeroth ∙ append-nil (ways ps)

  pub last_has : p.parts + length ps ≡ all_parts
  last_has = omega (arith, last_linked.held, long_all)

  other_linked : (k : ℕ) (d : Place) → k < length ps → IsLinkedAt (ps ++ p ∷ []) k (get_or ps k d)
  other_linked k d below =
      let P : Place → Type 0 = IsLinkedAt (ps ++ p ∷ []) k in
      subst P (get_or_append_left ps (p ∷ []) d k below) (linked k d (omega (arith, long_all)))

  other_reach : (k : ℕ) (d : Place) → k < length ps → (get_or ps k d).others ≡ remove (ways ps) k ++ (p.deque, 1) ∷ []
  other_reach k d below =
      let there : k < length (ways ps) = omega (arith, long_ways) in
      (other_linked k d below).reach ∙ ap (λ (ws : List (DequeId × ℕ)). remove ws k) all_ways ∙ remove-append_left (ways ps) ((p.deque, 1) ∷ []) k there

  pub others_reach : All (λ q. ReachesLast q p.deque) ps
  others_reach k d below = (remove (ways ps) k, other_reach k d below)

  pub still_linked : AreLinked (map left_by ps)
  still_linked k d below =
      let here : k < length ps = omega (arith, length-map ps left_by, below) in
      let q : Place = get_or ps k p in
      let e : get_or (map left_by ps) k d ≡ left_by q = get_or-map left_by ps k p d here in
      let front : (left_by q).others ≡ remove (ways ps) k = ap (λ (os : List (DequeId × ℕ)). take (length os - 1) os) (other_reach k p here) ∙ but_last (remove (ways ps) k) (p.deque, 1) in
      let P : Place → Type 0 = IsLinkedAt (map left_by ps) k in
      subst P (sym e) (record {
        reach = front ∙ ap (λ (ws : List (DequeId × ℕ)). remove ws k) (sym (ways_left ps));
        held = omega (arith, (other_linked k p here).held, long_all, length-map ps left_by);
      })

module _ {T : Type 0} where
  none_reached : (vs : List (Victim T)) → reaches vs ≡ [] → all_got (hands vs) ≡ []
  none_reached [] e = refl
  none_reached (v ∷ vs) e = absurd (cc)

  -- a seat that has all parts of its deque knows what became of each ticket
  pub home_once : (h : Hand T) (vs : List (Victim T)) (held : List T) → h.parts ≡ all_parts → reaches vs ≡ [] → IsAccountOf h held → IsPermutation h.pushed ((h.got ++ all_got (hands vs)) ++ held)
  home_once h vs held all none account =
      let stolen : account.stolen ≡ [] = account.all all in
      let got : all_got (hands vs) ≡ [] = none_reached vs none in
      rw got (rw stolen at account.once)

  flat_last : (f : Seat T → List T) (seats : List (Seat T)) (s : Seat T) → flat_map f (seats ++ s ∷ []) ≡ flat_map f seats ++ f s
  flat_last f seats s = flat_map-append f seats (s ∷ []) ∙ ap (λ (l : List T). flat_map f seats ++ l) (append-nil (f s))

  pub closes : (all rest news : List (Seat T)) (seat leaver : Seat T) (n : ℕ) → all ≡ rest ++ seat ∷ [] → AreLinked (places all) → IsParted seat leaver rest news → IsLeft leaver n → AreLinked (places news) × AreClosed all news n
  closes all rest news seat leaver n is linked parted left =
      let P : List (Seat T) → Type 0 = λ ss. AreLinked (places ss) in
      let e : places (rest ++ seat ∷ []) ≡ places rest ++ place_of seat ∷ [] = map-append (place_of {T = T}) rest (seat ∷ []) in
      let lk : AreLinked (places rest ++ place_of seat ∷ []) = let Q : List Place → Type 0 = AreLinked in subst Q e (subst P is linked) in
      let long : length (places rest) ≡ length rest = length-map rest (place_of {T = T}) in
      let home : (own_hand leaver).parts ≡ all_parts = ap (λ (q : Place). q.parts) parted.leaver_is ∙ ap (λ (k : ℕ). (place_of seat).parts + k) (sym long) ∙ last_has (places rest) (place_of seat) lk in
      let none : reaches leaver.others.items ≡ [] = ap (λ (q : Place). q.others) parted.leaver_is in (
        (let Q : List Place → Type 0 = AreLinked in subst Q (sym parted.seats_are) (still_linked (places rest) (place_of seat) lk)),
        record {
          pushed = pushed_of leaver;
          found = found_of leaver;
          held = left.held;
          lists = length (listed leaver);
          pushed_is = ap all_pushed is ∙ flat_last pushed_of rest seat ∙ ap (λ (l : List T). l ++ pushed_of seat) (sym parted.pushed.1) ∙ ap (λ (l : List T). all_pushed news ++ l) (sym parted.pushed.0);
          found_is = (let f : all_found all ≡ all_found rest ++ found_of seat = ap all_found is ∙ flat_last found_of rest seat in rw f parted.found);
          once = home_once (own_hand leaver) leaver.others.items left.held home none left.account;
          listed_is = (let l : all_listed all ≡ all_listed rest ++ listed seat = ap all_listed is ∙ flat_last listed rest seat in
              let a : length (all_listed rest) ≡ length (all_listed news) = ap length (sym parted.list.1) in
              let b : length (listed seat) ≡ length (listed leaver) = ap length (sym parted.list.0) in
              let c : length (all_listed all) ≡ length (all_listed rest ++ listed seat) = ap length l in
              omega (arith, a, b, c, length-append (all_listed rest) (listed seat)));
          count = left.count;
        },
      )

  pub none_closed : (seats : List (Seat T)) → AreClosed seats seats 0
  none_closed seats = record {
    pushed = [];
    found = [];
    held = [];
    lists = 0;
    pushed_is = sym (append-nil (all_pushed seats));
    found_is = rw (append-nil (all_found seats)) (IsPermutation-refl (all_found seats));
    once = IsPermutation-refl [];
    listed_is = omega arith;
    count = refl;
  }

  pub more_closed : (olds middle news : List (Seat T)) (m n k : ℕ) → AreClosed olds middle m → AreClosed middle news n → k ≡ min (m + n) (2 ^ 64 - 1) → AreClosed olds news k
  more_closed olds middle news m n k a b sum = record {
    pushed = b.pushed ++ a.pushed;
    found = b.found ++ a.found;
    held = b.held ++ a.held;
    lists = b.lists + a.lists;
    pushed_is = a.pushed_is ∙ ap (λ (l : List T). l ++ a.pushed) b.pushed_is ∙ append_assoc (all_pushed news) b.pushed a.pushed;
    found_is = IsPermutation-trans (all_found olds) (all_found middle ++ a.found) (all_found news ++ (b.found ++ a.found)) a.found_is (rw (← append_assoc (all_found news) b.found a.found) (IsPermutation-append_left a.found (all_found middle) (all_found news ++ b.found) b.found_is));
    once = IsPermutation-trans (b.pushed ++ a.pushed) ((b.found ++ b.held) ++ (a.found ++ a.held)) ((b.found ++ a.found) ++ (b.held ++ a.held)) (IsPermutation-append b.pushed (b.found ++ b.held) a.pushed (a.found ++ a.held) b.once a.once) (regroup_four b.found b.held a.found a.held);
    listed_is = omega (arith, a.listed_is, b.listed_is);
    count = (let e = length-append b.held a.held in let f = a.count in let g = b.count in omega arith);
  }

  pub all_closed : (olds news : List (Seat T)) (n : ℕ) → news ≡ [] → AreClosed olds news n → AreLeft olds n
  all_closed olds news n none a =
      let empty : (f : Seat T → List T) → flat_map f news ≡ [] = λ f. ap (flat_map f) none in record {
        held = a.held;
        once =
            (let p : all_pushed olds ≡ a.pushed = a.pushed_is ∙ ap (λ (l : List T). l ++ a.pushed) (empty pushed_of) in
            let f : IsPermutation (all_found olds) a.found = let Q : List T → Type 0 = λ l. IsPermutation (all_found olds) (l ++ a.found) in subst Q (empty found_of) a.found_is in
            rw p (IsPermutation-trans a.pushed (a.found ++ a.held) (all_found olds ++ a.held) a.once (IsPermutation-append_left a.held a.found (all_found olds) (IsPermutation-sym (all_found olds) a.found f))));
        count = (let l : length (all_listed news) ≡ 0 = ap length (empty listed) in let e : length (all_listed olds) ≡ a.lists = omega (arith, a.listed_is, l) in rw e a.count);
      }

  pub may_close : (all rest : List (Seat T)) (seat : Seat T) → all ≡ rest ++ seat ∷ [] → AreLinked (places all) → ((place_of seat).others ≡ ways (places rest)) × All (λ p. ReachesLast p (place_of seat).deque) (places rest)
  may_close all rest seat is linked =
      let P : List (Seat T) → Type 0 = λ ss. AreLinked (places ss) in
      let e : places (rest ++ seat ∷ []) ≡ places rest ++ place_of seat ∷ [] = map-append (place_of {T = T}) rest (seat ∷ []) in
      let lk : AreLinked (places rest ++ place_of seat ∷ []) = let Q : List Place → Type 0 = AreLinked in subst Q e (subst P is linked) in
      (last_reaches (places rest) (place_of seat) lk, others_reach (places rest) (place_of seat) lk)

  pub none_left_over : (seats : List (Seat T)) → length seats ≡ 0 → seats ≡ []
  none_left_over [] e = refl
  none_left_over (s ∷ seats) e = absurd (omega arith)

  pub none_are_linked : (seats : List (Seat T)) → seats ≡ [] → AreLinked (places seats)
  none_are_linked [] none = λ k d below. absurd (omega arith)
  none_are_linked (s ∷ seats) none = absurd (cc)
